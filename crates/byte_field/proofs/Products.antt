-- The product is linear on both sides, so that it is determined by the bytes with one bit.
-- Assumes nothing.
use Rattle.std.proofs.Common.{◌≡◌, ℕ, zero, suc, ◌+◌, ◌-◌, ◌*◌, ◌/◌, ◌%◌, ◌^◌, ◌<◌, ◌≤◌, Bool, true, false, cond, eqb, ltb, sym, refl, ap, ◌∙◌, ap₂, ⊎_elim, add-zero as nat_add_zero, one-mul, pow-suc, arith, ltb→lt, pow_mono}
use lib.Bits.{bit_xor, xor_block, xor_shr, xor_shifted, xor_assoc, xor_comm}
use Rattle.std.proofs.lemmas.Bool.{cases_lt}
use Rattle.byte_field.specs.Byte.{plus, add, twice, times, mul, IsByte}
use Rattle.byte_field.proofs.Computed.{every, every_at, agree, agree_at, agree₂, agree₂_at}
use Rattle.byte_field.proofs.Sums.{byte_xor, add_byte, add_comm, add_assoc, add_self, add_swap, zero_add, exchange}

-- The exclusive or that a byte times x is: of the byte moved up by one, and the polynomial if the byte's top bit is set.
twice_xor : (a : ℕ) → IsByte a → twice a ≡ bit_xor (a * 2) (a / 128 * 283)
unfolding every agree twice plus
twice_xor = agree_at 256 twice (λ a. bit_xor (a * 2) (a / 128 * 283)) tt

pub twice_byte : (a : ℕ) → IsByte a → IsByte (twice a)
unfolding every twice plus
twice_byte a h = ltb→lt (twice a) 256 (every_at 256 (λ k. ltb (twice k) 256) tt a h)

polynomial_xor : (x y : ℕ) → x < 2 → y < 2 → bit_xor x y * 283 ≡ bit_xor (x * 283) (y * 283)
unfolding every agree agree₂
polynomial_xor = agree₂_at 2 (λ x y. bit_xor x y * 283) (λ x y. bit_xor (x * 283) (y * 283)) tt

double_xor : (a b : ℕ) → bit_xor a b * 2 ≡ bit_xor (a * 2) (b * 2)
double_xor a b =
    let e : bit_xor (a * 2 + 0) (b * 2 + 0) ≡ bit_xor a b * 2 + 0 = xor_block 1 a b 0 0 (omega arith) (omega arith) in
    sym (nat_add_zero (bit_xor a b * 2)) ∙ sym e ∙ ap₂ bit_xor (nat_add_zero (a * 2)) (nat_add_zero (b * 2))

pub twice_add : (a b : ℕ) → IsByte a → IsByte b → twice (add a b) ≡ add (twice a) (twice b)
twice_add a b ha hb =
    let top : bit_xor a b / 128 * 283 ≡ bit_xor (a / 128 * 283) (b / 128 * 283) =
    ap (λ x. x * 283) (xor_shr a b 7) ∙ polynomial_xor (a / 128) (b / 128) (omega arith) (omega arith) in
    twice_xor (add a b) (add_byte a b)
    ∙ ap (λ x. bit_xor (x * 2) (x / 128 * 283)) (byte_xor a b ha hb)
    ∙ ap₂ bit_xor (double_xor a b) top
    ∙ exchange bit_xor xor_comm xor_assoc (a * 2) (b * 2) (a / 128 * 283) (b / 128 * 283)
    ∙ sym (ap₂ bit_xor (twice_xor a ha) (twice_xor b hb))
    ∙ sym (byte_xor (twice a) (twice b) (twice_byte a ha) (twice_byte b hb))

-- A sum with 0 inside a sum goes away, of numbers that are no bytes too.
zero_inside : (a rest : ℕ) → add a rest ≡ add (add 0 a) rest
zero_inside a rest = sym (zero_add (add a rest) (add_byte a rest)) ∙ sym (add_assoc 0 a rest)

-- Two bits pick what their sum picks: of the four cases antt computes the bits, and the sums of `a` are left.
pick_bits : (a x y rest : ℕ) → x < 2 → y < 2 → add (cond (eqb ((x + y) % 2) 1) a 0) rest ≡ add (add (cond (eqb x 1) a 0) (cond (eqb y 1) a 0)) rest
pick_bits a zero zero rest hx hy = ap (λ z. add z rest) (sym (add_self 0))
pick_bits a zero (suc zero) rest hx hy = zero_inside a rest
pick_bits a zero (suc (suc y)) rest hx hy = absurd (omega arith)
pick_bits a (suc zero) zero rest hx hy = zero_inside a rest ∙ ap (λ z. add z rest) (add_comm 0 a)
pick_bits a (suc zero) (suc zero) rest hx hy = ap (λ z. add z rest) (sym (add_self a))
pick_bits a (suc zero) (suc (suc y)) rest hx hy = absurd (omega arith)
pick_bits a (suc (suc x)) y rest hx hy = absurd (omega arith)

times_plus : (n a b c : ℕ) → times n a (plus n b c) ≡ add (times n a b) (times n a c)
unfolding plus times
times_plus zero a b c = sym (add_self 0)
times_plus (suc n) a b c =
    let bits : ℕ = (b % 2 + c % 2) % 2 in
    let more : ℕ = plus n (b / 2) (c / 2) in
    let low : (bits + 2 * more) % 2 ≡ bits = omega arith in
    let high : (bits + 2 * more) / 2 ≡ more = omega arith in
    ap₂ (λ l h. add (cond (eqb l 1) a 0) (times n (twice a) h)) low high
    ∙ ap (λ z. add (cond (eqb bits 1) a 0) z) (times_plus n (twice a) (b / 2) (c / 2))
    ∙ pick_bits a (b % 2) (c % 2) (add (times n (twice a) (b / 2)) (times n (twice a) (c / 2))) (omega arith) (omega arith)
    ∙ add_swap (cond (eqb (b % 2) 1) a 0) (cond (eqb (c % 2) 1) a 0) (times n (twice a) (b / 2)) (times n (twice a) (c / 2))

pub mul_add : (a b c : ℕ) → mul a (add b c) ≡ add (mul a b) (mul a c)
unfolding mul add
mul_add a b c = times_plus 8 a b c

pick_add : (a b : ℕ) (t : Bool) → cond t (add a b) 0 ≡ add (cond t a 0) (cond t b 0)
pick_add a b true = refl
pick_add a b false = sym (add_self 0)

times_add : (n a b c : ℕ) → IsByte a → IsByte b → times n (add a b) c ≡ add (times n a c) (times n b c)
unfolding times
times_add zero a b c ha hb = sym (add_self 0)
times_add (suc n) a b c ha hb =
    let t : Bool = eqb (c % 2) 1 in
    let rest : times n (twice (add a b)) (c / 2) ≡ add (times n (twice a) (c / 2)) (times n (twice b) (c / 2)) =
    ap (λ z. times n z (c / 2)) (twice_add a b ha hb) ∙ times_add n (twice a) (twice b) (c / 2) (twice_byte a ha) (twice_byte b hb) in
    ap₂ add (pick_add a b t) rest
    ∙ add_swap (cond t a 0) (cond t b 0) (times n (twice a) (c / 2)) (times n (twice b) (c / 2))

pub add_mul : (a b c : ℕ) → IsByte a → IsByte b → mul (add a b) c ≡ add (mul a c) (mul b c)
unfolding mul
add_mul a b c ha hb = times_add 8 a b c ha hb

pub mul_byte : (a b : ℕ) → IsByte (mul a b)
unfolding mul times
mul_byte a b = add_byte (cond (eqb (b % 2) 1) a 0) (times 7 (twice a) (b / 2))

-- A function that takes a sum of bytes to the sum of its values.
abbrev pub Linear : (ℕ → ℕ) → Type 0
Linear f = (a b : ℕ) → IsByte a → IsByte b → f (add a b) ≡ add (f a) (f b)

linear_zero : (f : ℕ → ℕ) → Linear f → f 0 ≡ 0
linear_zero f l = ap f (sym (add_self 0)) ∙ l 0 0 (omega arith) (omega arith) ∙ add_self (f 0)

-- A number with its highest bit taken off: what is left, and that both parts are bytes and sum up to it.
split_top : (n a : ℕ) → n < 8 → 2 ^ n ≤ a → a < 2 ^ suc n
    → (a - 2 ^ n < 2 ^ n) × IsByte (2 ^ n) × IsByte (a - 2 ^ n) × (add (2 ^ n) (a - 2 ^ n) ≡ a)
split_top n a hn low high =
    let twofold : 2 ^ suc n ≡ 2 ^ n * 2 = pow-suc 2 n in
    let top : 2 ^ n ≤ 128 = pow_mono {i = n} {j = 7} (omega arith) in
    let less : a - 2 ^ n < 2 ^ n = omega arith in
    let apart : bit_xor (1 * 2 ^ n) (a - 2 ^ n) ≡ 1 * 2 ^ n + (a - 2 ^ n) = xor_shifted 1 n (a - 2 ^ n) less in
    let whole : bit_xor (2 ^ n) (a - 2 ^ n) ≡ a = ap (λ x. bit_xor x (a - 2 ^ n)) (sym (one-mul (2 ^ n))) ∙ apart ∙ omega arith in
    (less, omega arith, omega arith, byte_xor (2 ^ n) (a - 2 ^ n) (omega arith) (omega arith) ∙ whole)

upto : (f g : ℕ → ℕ) → Linear f → Linear g → ((i : ℕ) → i < 8 → f (2 ^ i) ≡ g (2 ^ i)) → (n : ℕ) → n ≤ 8 → (a : ℕ) → a < 2 ^ n → f a ≡ g a
upto f g lf lg same zero hn a h =
    let e : a ≡ 0 = omega arith in
    ap f e ∙ linear_zero f lf ∙ sym (linear_zero g lg) ∙ ap g (sym e)
upto f g lf lg same (suc n) hn a h =
    ⊎_elim (λ less. upto f g lf lg same n (omega arith) a less)
    (λ more.
    let r : ℕ = a - 2 ^ n in
    let s = split_top n a hn more h in
    ap f (sym s.3) ∙ lf (2 ^ n) r s.1 s.2
    ∙ ap₂ add (same n hn) (upto f g lf lg same n (omega arith) r s.0)
    ∙ sym (lg (2 ^ n) r s.1 s.2) ∙ ap g s.3)
    (cases_lt a (2 ^ n))

-- Two linear functions that agree at the bytes with one bit agree at all bytes.
pub basis : (f g : ℕ → ℕ) → Linear f → Linear g → ((i : ℕ) → i < 8 → f (2 ^ i) ≡ g (2 ^ i)) → (a : ℕ) → IsByte a → f a ≡ g a
basis f g lf lg same a h = upto f g lf lg same 8 (omega arith) a h
