-- Combinations of columns: they are linear, and at rows of the unit matrix they pick a coefficient; the value of a polynomial is one.
use Rattle.std.proofs.Common.{◌≡◌, ℕ, zero, suc, ◌+◌, ◌<◌, List, [], ◌∷◌, length, get_or, sym, refl, ap, ◌∙◌, arith}
use Rattle.byte_field.specs.Byte.{add, mul, IsByte}
use Rattle.byte_field.proofs.Laws as laws
use Rattle.elimination.specs.Polynomial.{value, Bytes}
use Rattle.elimination.specs.Matrix.{combine, power, Zeros}

pub combine_byte : (zs : List ℕ) (f : ℕ → ℕ) → IsByte (combine zs f)
unfolding combine
combine_byte [] f = omega arith
combine_byte (z ∷ zs) f = laws.add_byte (mul z (f 0)) (combine zs (λ t. f (suc t)))

pub mul_left_comm : (a b c : ℕ) → IsByte a → IsByte b → IsByte c → mul a (mul b c) ≡ mul b (mul a c)
mul_left_comm a b c ha hb hc = cc (laws.mul_assoc a b c ha hb hc, laws.mul_assoc b a c hb ha hc, laws.mul_comm a b ha hb)

-- A combination of two rows added, one of them so many times, is that of their combinations.
pub combine_add :
    (zs : List ℕ) (f g h : ℕ → ℕ) (s : ℕ) → Bytes zs → IsByte s → ((t : ℕ) → IsByte (g t)) →
    ((t : ℕ) → t < length zs → h t ≡ add (f t) (mul s (g t))) → combine zs h ≡ add (combine zs f) (mul s (combine zs g))
unfolding combine
combine_add [] f g h s b hs hg e = cc (laws.mul_zero s, laws.add_self 0)
combine_add (z ∷ zs) f g h s b hs hg e =
    let head : h 0 ≡ add (f 0) (mul s (g 0)) = e 0 (omega arith) in
    let G : ℕ = combine zs (λ t. g (suc t)) in
    let more : combine zs (λ t. h (suc t)) ≡ add (combine zs (λ t. f (suc t))) (mul s G) =
    combine_add zs (λ t. f (suc t)) (λ t. g (suc t)) (λ t. h (suc t)) s b.1 hs (λ t. hg (suc t)) (λ t l. e (suc t) (omega arith)) in
    let product : mul z (add (f 0) (mul s (g 0))) ≡ add (mul z (f 0)) (mul s (mul z (g 0))) =
    cc (laws.mul_add z (f 0) (mul s (g 0)), mul_left_comm z s (g 0) b.0 hs (hg 0)) in
    let whole : mul s (add (mul z (g 0)) G) ≡ add (mul s (mul z (g 0))) (mul s G) = laws.mul_add s (mul z (g 0)) G in
    cc (
      head,
      more,
      product,
      whole,
      laws.add_swap (mul z (f 0)) (mul s (mul z (g 0))) (combine zs (λ t. f (suc t))) (mul s G),
    )

-- Where rows are the same, so are their combinations.
pub combine_same : (zs : List ℕ) (f g : ℕ → ℕ) → ((t : ℕ) → t < length zs → f t ≡ g t) → combine zs f ≡ combine zs g
unfolding combine
combine_same [] f g e = refl
combine_same (z ∷ zs) f g e =
    let head : f 0 ≡ g 0 = e 0 (omega arith) in
    let more : combine zs (λ t. f (suc t)) ≡ combine zs (λ t. g (suc t)) = combine_same zs (λ t. f (suc t)) (λ t. g (suc t)) (λ t l. e (suc t) (omega arith)) in
    cc (head, more)

pub combine_zero : (zs : List ℕ) (f : ℕ → ℕ) → ((t : ℕ) → t < length zs → f t ≡ 0) → combine zs f ≡ 0
unfolding combine
combine_zero [] f e = refl
combine_zero (z ∷ zs) f e =
    let head : f 0 ≡ 0 = e 0 (omega arith) in
    let more : combine zs (λ t. f (suc t)) ≡ 0 = combine_zero zs (λ t. f (suc t)) (λ t l. e (suc t) (omega arith)) in
    cc (head, more, laws.mul_zero z, laws.add_self 0)

-- A row of the unit matrix picks a coefficient.
pub combine_unit :
    (zs : List ℕ) (f : ℕ → ℕ) (i : ℕ) → Bytes zs → i < length zs → f i ≡ 1 → ((t : ℕ) → t < length zs → (i ≡ t → ⊥) → f t ≡ 0) →
    combine zs f ≡ get_or zs i 0
unfolding combine
combine_unit [] f i b l one none = absurd (omega arith)
combine_unit (z ∷ zs) f zero b l one none =
    let more : combine zs (λ t. f (suc t)) ≡ 0 = combine_zero zs (λ t. f (suc t)) (λ t l'. none (suc t) (omega arith) (λ e. omega arith)) in
    cc (one, more, laws.mul_one z b.0, laws.add_zero z b.0)
combine_unit (z ∷ zs) f (suc i) b l one none =
    let head : f 0 ≡ 0 = none 0 (omega arith) (λ e. omega arith) in
    let more : combine zs (λ t. f (suc t)) ≡ get_or zs i 0 =
    combine_unit zs (λ t. f (suc t)) i b.1 (omega arith) one (λ t l' ne. none (suc t) (omega arith) (λ e. ne (omega arith))) in
    cc (head, more, laws.mul_zero z, laws.zero_add (combine zs (λ t. f (suc t))) (combine_byte zs (λ t. f (suc t))))

-- Coefficients with, after so many zeros, a 1.
unfoldable pub with_one : List ℕ → ℕ → List ℕ
with_one [] zero = 1 ∷ []
with_one [] (suc r) = 0 ∷ with_one [] r
with_one (z ∷ zs) r = z ∷ with_one zs r

pub with_one_length : (zs : List ℕ) (r : ℕ) → length (with_one zs r) ≡ suc (length zs + r)
unfolding with_one
with_one_length [] zero = refl
with_one_length [] (suc r) = ap suc (with_one_length [] r) ∙ omega arith
with_one_length (z ∷ zs) r = ap suc (with_one_length zs r) ∙ omega arith

pub with_one_bytes : (zs : List ℕ) (r : ℕ) → Bytes zs → Bytes (with_one zs r)
unfolding with_one
with_one_bytes [] zero b = (omega arith, tt)
with_one_bytes [] (suc r) b = (omega arith, with_one_bytes [] r tt)
with_one_bytes (z ∷ zs) r b = (b.0, with_one_bytes zs r b.1)

pub with_one_some : (zs : List ℕ) (r : ℕ) → Zeros (with_one zs r) → ⊥
unfolding with_one
with_one_some [] zero h = omega arith
with_one_some [] (suc r) h = with_one_some [] r h.1
with_one_some (z ∷ zs) r h = with_one_some zs r h.1

pub with_one_combine :
    (zs : List ℕ) (r : ℕ) (f : ℕ → ℕ) → IsByte (f (length zs + r)) → combine (with_one zs r) f ≡ add (combine zs f) (f (length zs + r))
unfolding with_one combine
with_one_combine [] zero f b = cc (laws.one_mul (f 0) b, laws.add_zero (f 0) b, laws.zero_add (f 0) b)
with_one_combine [] (suc r) f b =
    let at : 0 + suc r ≡ suc (0 + r) = omega arith in
    let b' : IsByte (f (suc (0 + r))) = rw at at b in
    let more : combine (with_one [] r) (λ t. f (suc t)) ≡ add 0 (f (suc (0 + r))) = with_one_combine [] r (λ t. f (suc t)) b' in
    cc (more, laws.zero_mul (f 0), laws.zero_add (f (suc (0 + r))) b')
with_one_combine (z ∷ zs) r f b =
    let at : suc (length zs) + r ≡ suc (length zs + r) = omega arith in
    let b' : IsByte (f (suc (length zs + r))) = rw at at b in
    let more : combine (with_one zs r) (λ t. f (suc t)) ≡ add (combine zs (λ t. f (suc t))) (f (suc (length zs + r))) =
    with_one_combine zs r (λ t. f (suc t)) b' in
    cc (more, laws.add_assoc (mul z (f 0)) (combine zs (λ t. f (suc t))) (f (suc (length zs + r))))

pub power_byte : (x t : ℕ) → IsByte (power x t)
unfolding power
power_byte x zero = omega arith
power_byte x (suc t) = laws.mul_byte x (power x t)

-- A factor comes out of a combination.
combine_scaled : (zs : List ℕ) (f : ℕ → ℕ) (x : ℕ) → Bytes zs → IsByte x → ((t : ℕ) → IsByte (f t)) → combine zs (λ t. mul x (f t)) ≡ mul x (combine zs f)
unfolding combine
combine_scaled [] f x b hx hf = sym (laws.mul_zero x)
combine_scaled (z ∷ zs) f x b hx hf =
    let more : combine zs (λ t. mul x (f (suc t))) ≡ mul x (combine zs (λ t. f (suc t))) = combine_scaled zs (λ t. f (suc t)) x b.1 hx (λ t. hf (suc t)) in
    cc (more, mul_left_comm z x (f 0) b.0 hx (hf 0), laws.mul_add x (mul z (f 0)) (combine zs (λ t. f (suc t))))

-- The value of a polynomial is the combination of its coefficients with the powers of the point.
pub value_combine : (cs : List ℕ) (x : ℕ) → Bytes cs → IsByte x → value cs x ≡ combine cs (power x)
unfolding value combine power
value_combine [] x b hx = refl
value_combine (c ∷ cs) x b hx =
    cc (value_combine cs x b.1 hx, combine_scaled cs (power x) x b.1 hx (power_byte x), laws.mul_one c b.0)
