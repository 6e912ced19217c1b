-- A polynomial has fewer roots than coefficients, so that its values at enough points determine it.
use Rattle.std.proofs.Common.{◌≡◌, ℕ, suc, ◌≤◌, List, [], ◌∷◌, length, sym, refl, ap, ◌∙◌, subst, ap₂, inl, inr, arith}
use mathlib.Core.List.Memᴰ
use mathlib.Core.List.{Memᴰ}
use Rattle.std.specs.List.{AllByRecursion}
use Rattle.byte_field.specs.Byte.{add, mul, IsByte}
use Rattle.byte_field.proofs.Laws as laws
use Rattle.elimination.specs.Polynomial.{value, Bytes, Distinct, Determined}

-- A value is a byte.
pub value_byte : (cs : List ℕ) (x : ℕ) → IsByte (value cs x)
unfolding value
value_byte [] x = omega arith
value_byte (c ∷ cs) x = laws.add_byte c (mul x (value cs x))

-- All coefficients are 0.
abbrev pub Zeros : List ℕ → Type 0
Zeros cs = AllByRecursion (λ c. c ≡ 0) cs

-- The values at `a` of what is left of the coefficients, from each place on: `a` divided out.
unfoldable pub down : ℕ → List ℕ → List ℕ
down a [] = []
down a (d ∷ ds) = value (d ∷ ds) a ∷ down a ds

pub down_length : (a : ℕ) (cs : List ℕ) → length (down a cs) ≡ length cs
unfolding down
down_length a [] = refl
down_length a (c ∷ cs) = ap suc (down_length a cs)

pub down_bytes : (a : ℕ) (cs : List ℕ) → Bytes (down a cs)
unfolding down
down_bytes a [] = tt
down_bytes a (c ∷ cs) = (value_byte (c ∷ cs) a, down_bytes a cs)

-- A term added twice goes out.
add_twice : (c p q s : ℕ) → IsByte q → add (add c p) (add (add q p) s) ≡ add c (add q s)
add_twice c p q s hq =
    cc (laws.add_assoc c p (add (add q p) s), laws.add_assoc p (add q p) s, laws.add_comm q p, laws.add_assoc p p q, laws.add_self p, laws.zero_add q hq)

-- One step of the division, of numbers.
divide_step :
    (a x c A D X : ℕ) → IsByte a → IsByte x → IsByte A → IsByte D → X ≡ add A (mul (add x a) D) →
    add c (mul x X) ≡ add (add c (mul a A)) (mul (add x a) (add A (mul x D)))
divide_step a x c A D X ha hx h_a h_d e =
    let xa = add x a in
    let hxa = laws.add_byte x a in
    let hq = laws.mul_byte x A in
    let swap : mul xa (mul x D) ≡ mul x (mul xa D) =
    sym (laws.mul_assoc xa x D hxa hx h_d) ∙ ap (λ (y : ℕ). mul y D) (laws.mul_comm xa x hxa hx) ∙ laws.mul_assoc x xa D hx hxa h_d in
    let left : mul x X ≡ add (mul x A) (mul x (mul xa D)) = ap (λ (y : ℕ). mul x y) e ∙ laws.mul_add x A (mul xa D) in
    let right : mul xa (add A (mul x D)) ≡ add (add (mul x A) (mul a A)) (mul x (mul xa D)) =
    laws.mul_add xa A (mul x D) ∙ cc (laws.add_mul x a A hx ha, swap) in
    cc (left, right, add_twice c (mul a A) (mul x A) (mul x (mul xa D)) hq)

-- A polynomial is its value at `a`, and (x + a) times what is left when `a` is divided out.
pub divide :
    (a x c : ℕ) (cs : List ℕ) → IsByte a → IsByte x → IsByte c → Bytes cs →
    value (c ∷ cs) x ≡ add (value (c ∷ cs) a) (mul (add x a) (value (down a cs) x))
unfolding value down
divide a x c [] ha hx hc hcs =
    cc (laws.mul_zero x, laws.mul_zero a, laws.mul_zero (add x a), laws.add_zero c hc)
divide a x c (d ∷ ds) ha hx hc hcs =
    divide_step a x c (value (d ∷ ds) a) (value (down a ds) x) (value (d ∷ ds) x) ha hx (value_byte (d ∷ ds) a) (value_byte (down a ds) x)
    (divide a x d ds ha hx hcs.0 hcs.1)

-- Coefficients that are all 0 have the value 0.
pub zeros_value : (cs : List ℕ) (x : ℕ) → Zeros cs → value cs x ≡ 0
unfolding value
zeros_value [] x h = refl
zeros_value (c ∷ cs) x h = cc (h.0, zeros_value cs x h.1, laws.mul_zero x, laws.add_self 0)

-- Where nothing is left, nothing was there.
pub down_zeros : (a : ℕ) (cs : List ℕ) → Bytes cs → Zeros (down a cs) → Zeros cs
unfolding down value
down_zeros a [] b h = tt
down_zeros a (c ∷ cs) b h =
    let rest = down_zeros a cs b.1 h.1 in
    (cc (h.0, zeros_value cs a rest, laws.mul_zero a, laws.add_zero c b.0), rest)

-- What all elements are, a member is.
pub all_mem : (P : ℕ → Type 0) (xs : List ℕ) (x : ℕ) → AllByRecursion P xs → Memᴰ x xs → P x
all_mem P [] x h m = absurd (Memᴰ.not-nil m)
all_mem P (y ∷ ys) x h m =
    elim (Memᴰ.cases_cons m) [ inl e ↦ subst P (sym e) h.0 | inr m' ↦ all_mem P ys x h.1 m' ]

-- Another root stays a root when `a` is divided out.
root_left :
    (a x c : ℕ) (cs : List ℕ) → IsByte a → IsByte x → IsByte c → Bytes cs → (a ≡ x → ⊥) → value (c ∷ cs) a ≡ 0 → value (c ∷ cs) x ≡ 0 →
    value (down a cs) x ≡ 0
root_left a x c cs ha hx hc hcs ne za zx =
    let V = value (down a cs) x in
    let h_v = value_byte (down a cs) x in
    let hxa = laws.add_byte x a in
    let none : mul (add x a) V ≡ 0 = cc (divide a x c cs ha hx hc hcs, za, zx, laws.zero_add (mul (add x a) V) (laws.mul_byte (add x a) V)) in
    elim (laws.mul_is_zero (add x a) V hxa h_v none) [ inl e ↦ absurd (ne (sym (laws.add_is_zero x a hx ha e))) | inr e ↦ e ]

-- A polynomial with at most as many coefficients as it has different roots has only zeros.
pub few_roots :
    (cs xs : List ℕ) → Bytes cs → Bytes xs → Distinct xs → length cs ≤ length xs → ((x : ℕ) → Memᴰ x xs → value cs x ≡ 0) → Zeros cs
unfolding down
few_roots [] xs b bx d h r = tt
few_roots (c ∷ cs) [] b bx d h r = absurd (omega arith)
few_roots (c ∷ cs) (a ∷ xs) b bx d h r =
    down_zeros a (c ∷ cs) b (
      r a (Memᴰ.head refl),
      few_roots (down a cs) xs (down_bytes a cs) bx.1 d.1 (omega (arith, down_length a cs))
          (λ x m. root_left a x c cs bx.0 (all_mem IsByte xs x bx.1 m) b.0 b.1 (λ e. d.0 (Memᴰ.cast e m)) (r a (Memᴰ.head refl))
          (r x (Memᴰ.tail m))),
    )

-- Two polynomials added, coefficient by coefficient.
unfoldable pub sums : List ℕ → List ℕ → List ℕ
sums [] ds = []
sums (c ∷ cs) [] = []
sums (c ∷ cs) (d ∷ ds) = add c d ∷ sums cs ds

pub sums_length : (cs ds : List ℕ) → length cs ≡ length ds → length (sums cs ds) ≡ length cs
unfolding sums
sums_length [] ds e = refl
sums_length (c ∷ cs) [] e = absurd (omega arith)
sums_length (c ∷ cs) (d ∷ ds) e = ap suc (sums_length cs ds (omega arith))

pub sums_bytes : (cs ds : List ℕ) → Bytes (sums cs ds)
unfolding sums
sums_bytes [] ds = tt
sums_bytes (c ∷ cs) [] = tt
sums_bytes (c ∷ cs) (d ∷ ds) = (laws.add_byte c d, sums_bytes cs ds)

pub sums_value : (cs ds : List ℕ) (x : ℕ) → IsByte x → length cs ≡ length ds → value (sums cs ds) x ≡ add (value cs x) (value ds x)
unfolding sums value
sums_value [] [] x hx e = sym (laws.add_self 0)
sums_value [] (d ∷ ds) x hx e = absurd (omega arith)
sums_value (c ∷ cs) [] x hx e = absurd (omega arith)
sums_value (c ∷ cs) (d ∷ ds) x hx e =
    let more : value (sums cs ds) x ≡ add (value cs x) (value ds x) = sums_value cs ds x hx (omega arith) in
    cc (more, laws.mul_add x (value cs x) (value ds x), laws.add_swap c d (mul x (value cs x)) (mul x (value ds x)))

pub sums_zeros : (cs ds : List ℕ) → Bytes cs → Bytes ds → length cs ≡ length ds → Zeros (sums cs ds) → cs ≡ ds
unfolding sums
sums_zeros [] [] b b' e z = refl
sums_zeros [] (d ∷ ds) b b' e z = absurd (omega arith)
sums_zeros (c ∷ cs) [] b b' e z = absurd (omega arith)
sums_zeros (c ∷ cs) (d ∷ ds) b b' e z =
    ap₂ ◌∷◌ (laws.add_is_zero c d b.0 b'.0 z.0) (sums_zeros cs ds b.1 b'.1 (omega arith) z.1)

-- Polynomials with the same values at enough different points are the same.
pub determined : Determined
determined cs ds xs b b' bx d e h same =
    sums_zeros cs ds b b' e
    (few_roots (sums cs ds) xs (sums_bytes cs ds) bx d (omega (arith, sums_length cs ds e))
    (λ x m. sums_value cs ds x (all_mem IsByte xs x bx m) e ∙ ap (λ (v : ℕ). add v (value ds x)) (same x m) ∙ laws.add_self (value ds x)))
