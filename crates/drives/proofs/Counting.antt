-- The readings of an object's places, and which of them count.
use Rattle.std.proofs.Common.{◌≡◌, ℕ, zero, suc, ◌+◌, ◌<◌, ◌≤◌, cond, List, [], ◌∷◌, ◌++◌, map, length, get_or, take, is_some, None, Option, sym, refl, ap, ◌∙◌, subst, inl, inr, arith}
use Rattle.std.proofs.lemmas.List.{append-nil, append_assoc, map-id, length-map, ext_get_or}
use Rattle.std.proofs.lemmas.List.FromFn.{get_or-map-range_with_len, fill_by_all}
use Rattle.std.specs.Array.{IsFromFnResult, IsFromFnResultFrom}
use Rattle.std.specs.Fn.{Called}
use denote.Param.Members.{Mut}
use Rattle.std.proofs.lemmas.Bool.{cases_eq}
use Rattle.slots.specs.Slot.{Slot, empty, read_slot}
use Rattle.drives.specs.Place.{slot_at, readings}
use Rattle.drives.specs.View.{version_of, index_of, firsts_after, firsts, distinct}

pub length_readings : (bytes : List ℕ) (o d : ℕ) → length (readings bytes o d) ≡ 4
unfolding readings
length_readings bytes o d = refl

pub get_or_readings : (bytes : List ℕ) (o d k : ℕ) → k < 4 → get_or (readings bytes o d) k empty ≡ read_slot o d (slot_at bytes o k)
unfolding readings
get_or_readings bytes o d k h = get_or-map-range_with_len (λ i. read_slot o d (slot_at bytes o i)) 0 4 k k empty h (omega arith)

-- What `from_fn` makes, where each call gives what `h` says of its place: each element of the array.
module _ {F B : Type 0} (g : Mut F (ℕ × Unit {0}) B) (f : F) (h : ℕ → B) (d : B) (ys : List B) where
  made_at : (i m n : ℕ) → i + m ≡ n → ((k : ℕ) (y : B) (q : F) → k < n → Called g f (k, tt) y q → (q ≡ f) × (y ≡ h k)) → IsFromFnResultFrom g f ys i m →
      (k : ℕ) → i ≤ k → k < n → get_or ys k d ≡ h k
  made_at i zero n e each made k low high = absurd (omega arith)
  made_at i (suc m) n e each (q, y, at, call, rest) k low high =
      let c = each i y q (omega arith) call in
      elim (cases_eq i k) [
        | inl same ↦ ap (λ j. get_or ys j d) (sym same) ∙ at.1 d ∙ c.1 ∙ ap h same
        | inr other ↦ made_at (i + 1) m n (omega arith) each (subst (λ p. IsFromFnResultFrom g p ys (i + 1) m) c.0 rest) k (omega arith) high
      ]

pub made_each : {F B : Type 0} {g : Mut F (ℕ × Unit {0}) B} {f : F} {ys : List B} (h : ℕ → B) (d : B) (n : ℕ) →
    ((k : ℕ) (y : B) (q : F) → k < n → Called g f (k, tt) y q → (q ≡ f) × (y ≡ h k)) → IsFromFnResult g f ys n → (k : ℕ) → k < n → get_or ys k d ≡ h k
made_each {g = g} {f = f} {ys = ys} h d n each made k high = made_at g f h d ys 0 n n (omega arith) each made.each k (omega arith) high

-- An array that has the version of each place.
pub readings_filled : (bytes : List ℕ) (o d : ℕ) (xs : List (Option ℕ)) → length xs ≡ 4 →
    ((k : ℕ) → k < 4 → get_or xs k None ≡ version_of (read_slot o d (slot_at bytes o k))) → xs ≡ map version_of (readings bytes o d)
unfolding readings
readings_filled bytes o d xs long each = fill_by_all (λ k. version_of (read_slot o d (slot_at bytes o k))) xs 4 None long each

pub length_firsts_after : {X : Type 0} (f : X → Option ℕ) (none : X) (e : List (Option ℕ)) (xs : List X) → length (firsts_after f none e xs) ≡ length xs
length_firsts_after f none e [] = refl
length_firsts_after f none e (x ∷ xs) = ap suc (length_firsts_after f none (e ++ (f x ∷ [])) xs)

-- What counts at one place.
pub get_or_firsts_after : {X : Type 0} (f : X → Option ℕ) (none : X) (e : List (Option ℕ)) (xs : List X) (k : ℕ) → k < length xs →
    get_or (firsts_after f none e xs) k none ≡ cond (is_some (index_of (f (get_or xs k none)) (e ++ take k (map f xs)))) none (get_or xs k none)
get_or_firsts_after f none e [] k h = absurd (omega arith)
get_or_firsts_after f none e (x ∷ xs) zero h = let all = append-nil e in grind arith
get_or_firsts_after f none e (x ∷ xs) (suc k) h =
    let later = get_or_firsts_after f none (e ++ (f x ∷ [])) xs k (omega arith) in
    let joined = append_assoc e (f x ∷ []) (take k (map f xs)) in grind arith

pub get_or_firsts : (xs : List (Option ℕ)) (k : ℕ) → k < length xs → get_or (firsts xs) k None ≡ cond (is_some (index_of (get_or xs k None) (take k xs))) None (get_or xs k None)
get_or_firsts xs k h = let first = get_or_firsts_after (λ v. v) None [] xs k h in let all = map-id xs in grind arith

-- The versions of the slots that count are the versions that count.
pub map_firsts_after : (e : List (Option ℕ)) (ss : List Slot) → firsts_after (λ v. v) None e (map version_of ss) ≡ map version_of (firsts_after version_of empty e ss)
map_firsts_after e [] = refl
map_firsts_after e (s ∷ ss) = let later = map_firsts_after (e ++ (version_of s ∷ [])) ss in grind arith

pub firsts_readings : (ss : List Slot) → firsts (map version_of ss) ≡ map version_of (distinct ss)
firsts_readings ss = map_firsts_after [] ss

-- An array that has what counts at each place.
pub firsts_filled : (bytes : List ℕ) (o d : ℕ) (all xs : List (Option ℕ)) → all ≡ map version_of (readings bytes o d) → length xs ≡ 4 →
    ((k : ℕ) → k < 4 → get_or xs k None ≡ get_or (firsts all) k None) → xs ≡ map version_of (distinct (readings bytes o d))
firsts_filled bytes o d all xs e long each =
    let same = firsts_readings (readings bytes o d) in
    let four = length-map (readings bytes o d) version_of ∙ length_readings bytes o d in
    let counted = length_firsts_after (λ v. v) None [] all in
    ext_get_or None xs (firsts all) (omega (arith, ap length e)) (λ i h. each i (omega arith)) ∙ ap firsts e ∙ same
