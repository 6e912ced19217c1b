-- Points: members and places, when none stands twice, and when nothing is to be refused.
use Rattle.std.proofs.Common.{◌≡◌, ℕ, zero, suc, ◌%◌, ◌<◌, Bool, true, false, cond, ◌||◌, eqb, List, [], ◌∷◌, length, get_or, sym, refl, ap, ◌∙◌, inl, inr, arith, w8, Fits}
use mathlib.Core.List.Memᴰ
use mathlib.Core.List.{Memᴰ}
use Rattle.std.specs.List.{list_any}
use Rattle.std.proofs.ByRecursion.{All-from_get_or}
use Rattle.std.proofs.lemmas.Bool.{or_parts, or_from, or_left, eqb-false, ne_eqb, eq-eqb, cond-true, cond-false}
use Rattle.byte_field.specs.Byte.{IsByte}
use Rattle.elimination.specs.Polynomial.{Bytes, Distinct}
use Rattle.elimination.specs.Interpolation.{is_in, repeated, reason}

-- Where a member stands.
pub mem_place : (xs : List ℕ) (x : ℕ) → Memᴰ x xs → (i : ℕ) × (i < length xs) × (get_or xs i 0 ≡ x)
mem_place [] x m = absurd (Memᴰ.not-nil m)
mem_place (y ∷ ys) x m =
    elim (Memᴰ.cases_cons m) [
      | inl e ↦ (0, omega arith, sym e)
      | inr m' ↦ let below = mem_place ys x m' in (suc below.0, omega (arith, below.1), below.2)
    ]

pub place_mem : (xs : List ℕ) (i : ℕ) → i < length xs → Memᴰ (get_or xs i 0) xs
place_mem [] i h = absurd (omega arith)
place_mem (x ∷ xs) zero h = Memᴰ.head refl
place_mem (x ∷ xs) (suc i) h = Memᴰ.tail (place_mem xs i (omega arith))

not_in : (x : ℕ) (xs : List ℕ) → is_in x xs ≡ false → Memᴰ x xs → ⊥
unfolding is_in
not_in x [] e m = Memᴰ.not-nil m
not_in x (y ∷ ys) e m =
    let parts = or_parts (eqb y x) (is_in x ys) e in
    elim (Memᴰ.cases_cons m) [ inl same ↦ eqb-false y x parts.0 (sym same) | inr m' ↦ not_in x ys parts.1 m' ]

in_not : (x : ℕ) (xs : List ℕ) → (Memᴰ x xs → ⊥) → is_in x xs ≡ false
unfolding is_in
in_not x [] h = refl
in_not x (y ∷ ys) h = or_from (eqb y x) (is_in x ys) (ne_eqb y x (λ e. h (Memᴰ.head (sym e)))) (in_not x ys (λ m. h (Memᴰ.tail m)))

-- The test for a point that stands twice says what it should.
pub distinct_from : (xs : List ℕ) → repeated xs ≡ false → Distinct xs
unfolding repeated
distinct_from [] e = tt
distinct_from (x ∷ xs) e =
    let parts = or_parts (is_in x xs) (repeated xs) e in
    (not_in x xs parts.0, distinct_from xs parts.1)

pub distinct_repeated : (xs : List ℕ) → Distinct xs → repeated xs ≡ false
unfolding repeated
distinct_repeated [] d = refl
distinct_repeated (x ∷ xs) d = or_from (is_in x xs) (repeated xs) (in_not x xs d.0) (distinct_repeated xs d.1)

-- `contains` asks what `is_in` asks.
contains_is : (x : ℕ) (ys : List ℕ) → list_any (λ y. eqb y x) ys ≡ is_in x ys
unfolding is_in
contains_is x [] = refl
contains_is x (y ∷ ys) = ap (λ b. eqb y x || b) (contains_is x ys)

-- What a search through the points finds at the first of those that are left, and that it can go on behind it.
module _ (left : List ℕ) (x : ℕ) (behind : List ℕ) (is : left ≡ x ∷ behind) where
  pub repeated_here : true ≡ list_any (λ y. eqb y x) behind → repeated left ≡ true
  unfolding repeated
  repeated_here h = ap repeated is ∙ or_left (is_in x behind) (repeated behind) (sym (h ∙ contains_is x behind))

  pub repeated_more : false ≡ list_any (λ y. eqb y x) behind → repeated behind ≡ repeated left
  unfolding repeated
  repeated_more h = sym (ap repeated is ∙ ap (λ (t : Bool). t || repeated behind) (sym (h ∙ contains_is x behind)))

pub repeated_none : (left : List ℕ) → length left ≡ 0 → repeated left ≡ false
unfolding repeated
repeated_none [] e = refl
repeated_none (x ∷ xs) e = absurd (omega arith)

-- What is known of the elements of a slice of bytes, as a fact on the list.
pub typed_bytes : (xs : List ℕ) → ((i : ℕ) → Fits w8 (get_or xs i 0)) → Bytes xs
typed_bytes xs t = All-from_get_or IsByte xs 0 (λ i h. let f = t i in omega arith)

-- Points and values that ask for no refusal.
pub reason_none :
    (points values : List ℕ) → (length points ≡ 0 → ⊥) → length values % length points ≡ 0 → repeated points ≡ false → reason points values ≡ 3
reason_none points values some even different =
    cond-false (eqb (length points) 0) 0 (cond (eqb (length values % length points) 0) (cond (repeated points) 2 3) 1) (ne_eqb (length points) 0 some)
    ∙ cond-true (eqb (length values % length points) 0) (cond (repeated points) 2 3) 1 (eq-eqb (length values % length points) 0 even)
    ∙ cond-false (repeated points) 2 3 different
