-- The laws of the field of bytes, for the crates above.
-- Assumes nothing.
use Rattle.std.proofs.Common.{◌≡◌, ℕ, zero, suc, ◌^◌, ◌<◌, ◌≤◌, ◌⊎◌, sym, refl, ap, ◌∙◌, inl, inr, arith}
use lib.Pow.{pow-lt}
use Rattle.byte_field.specs.Byte.{plus, add, twice, times, mul, fourth, inv, IsByte}
use Rattle.byte_field.proofs.Computed.{every, every_at, agree, agree_at, agree₂, agree₂_at}
use Rattle.byte_field.proofs.Products.{Linear, basis}
pub use Rattle.byte_field.proofs.Sums.{add_comm, add_assoc, add_self, add_byte, zero_add, add_zero, add_swap, add_is_zero}
pub use Rattle.byte_field.proofs.Products.{mul_add, add_mul, mul_byte}

-- Functions of two bytes, linear in each, agree at all bytes if they agree at those with one bit.
basis₂ : (f g : ℕ → ℕ → ℕ)
    → ((b : ℕ) → Linear (λ a. f a b)) → ((b : ℕ) → Linear (λ a. g a b))
    → ((a : ℕ) → IsByte a → Linear (f a)) → ((a : ℕ) → IsByte a → Linear (g a))
    → ((i j : ℕ) → i < 8 → j < 8 → f (2 ^ i) (2 ^ j) ≡ g (2 ^ i) (2 ^ j))
    → (a b : ℕ) → IsByte a → IsByte b → f a b ≡ g a b
basis₂ f g f₁ g₁ f₂ g₂ same a b ha hb =
    basis (λ x. f x b) (λ x. g x b) (f₁ b) (g₁ b)
    (λ i hi. basis (f (2 ^ i)) (g (2 ^ i)) (f₂ (2 ^ i) (pow-lt {i = i} {j = 8} hi)) (g₂ (2 ^ i) (pow-lt {i = i} {j = 8} hi))
    (λ j hj. same i j hi hj) b hb)
    a ha

-- The factors of a product may change places: the 64 products of bytes with one bit are computed.
mul_swapped : (i j : ℕ) → i < 8 → j < 8 → mul (2 ^ i) (2 ^ j) ≡ mul (2 ^ j) (2 ^ i)
unfolding every agree agree₂ mul times twice add plus
mul_swapped = agree₂_at 8 (λ i j. mul (2 ^ i) (2 ^ j)) (λ i j. mul (2 ^ j) (2 ^ i)) tt

pub mul_comm : (a b : ℕ) → IsByte a → IsByte b → mul a b ≡ mul b a
mul_comm =
    basis₂ mul (λ a b. mul b a)
    (λ b x y hx hy. add_mul x y b hx hy) (λ b x y hx hy. mul_add b x y)
    (λ a ha x y hx hy. mul_add a x y) (λ a ha x y hx hy. add_mul x y a hx hy)
    mul_swapped

-- Products of three: the 512 of bytes with one bit are computed.
mul_regrouped : (i j k : ℕ) → i < 8 → j < 8 → k < 8 → mul (mul (2 ^ i) (2 ^ j)) (2 ^ k) ≡ mul (2 ^ i) (mul (2 ^ j) (2 ^ k))
unfolding every agree agree₂ mul times twice add plus
mul_regrouped i j k hi =
    agree₂_at 8 (λ j k. mul (mul (2 ^ i) (2 ^ j)) (2 ^ k)) (λ j k. mul (2 ^ i) (mul (2 ^ j) (2 ^ k)))
    (every_at 8 (λ i. agree₂ 8 (λ j k. mul (mul (2 ^ i) (2 ^ j)) (2 ^ k)) (λ j k. mul (2 ^ i) (mul (2 ^ j) (2 ^ k)))) tt i hi) j k

mul_assoc_one : (i : ℕ) → i < 8 → (b c : ℕ) → IsByte b → IsByte c → mul (mul (2 ^ i) b) c ≡ mul (2 ^ i) (mul b c)
mul_assoc_one i hi =
    basis₂ (λ b c. mul (mul (2 ^ i) b) c) (λ b c. mul (2 ^ i) (mul b c))
    (λ c x y hx hy. ap (λ z. mul z c) (mul_add (2 ^ i) x y) ∙ add_mul (mul (2 ^ i) x) (mul (2 ^ i) y) c (mul_byte (2 ^ i) x) (mul_byte (2 ^ i) y))
    (λ c x y hx hy. ap (mul (2 ^ i)) (add_mul x y c hx hy) ∙ mul_add (2 ^ i) (mul x c) (mul y c))
    (λ b hb x y hx hy. mul_add (mul (2 ^ i) b) x y)
    (λ b hb x y hx hy. ap (mul (2 ^ i)) (mul_add b x y) ∙ mul_add (2 ^ i) (mul b x) (mul b y))
    (λ j k hj hk. mul_regrouped i j k hi hj hk)

pub mul_assoc : (a b c : ℕ) → IsByte a → IsByte b → IsByte c → mul (mul a b) c ≡ mul a (mul b c)
mul_assoc a b c ha hb hc =
    basis (λ x. mul (mul x b) c) (λ x. mul x (mul b c))
    (λ x y hx hy. ap (λ z. mul z c) (add_mul x y b hx hy) ∙ add_mul (mul x b) (mul y b) c (mul_byte x b) (mul_byte y b))
    (λ x y hx hy. add_mul x y (mul b c) hx hy)
    (λ i hi. mul_assoc_one i hi b c hb hc) a ha

pub mul_zero : (a : ℕ) → mul a 0 ≡ 0
mul_zero a = ap (mul a) (sym (add_self 0)) ∙ mul_add a 0 0 ∙ add_self (mul a 0)

pub zero_mul : (a : ℕ) → mul 0 a ≡ 0
zero_mul a = ap (λ x. mul x a) (sym (add_self 0)) ∙ add_mul 0 0 a (omega arith) (omega arith) ∙ add_self (mul 0 a)

pub mul_one : (a : ℕ) → IsByte a → mul a 1 ≡ a
unfolding every agree mul times twice add plus
mul_one = agree_at 256 (λ a. mul a 1) (λ a. a) tt

pub one_mul : (a : ℕ) → IsByte a → mul 1 a ≡ a
one_mul a h = mul_comm 1 a (omega arith) h ∙ mul_one a h

pub inv_byte : (a : ℕ) → IsByte (inv a)
unfolding inv
inv_byte a = mul_byte (fourth (fourth (mul (fourth (mul (mul a a) a)) (mul (mul a a) a)))) (mul (fourth (mul (mul a a) a)) (mul a a))

-- Every byte but 0 times its inverse is 1: 255 cases, computed.
suc_inv : (k : ℕ) → k < 255 → mul (suc k) (inv (suc k)) ≡ 1
unfolding every agree inv fourth mul times twice add plus
suc_inv = agree_at 255 (λ k. mul (suc k) (inv (suc k))) (λ k. 1) tt

pub mul_inv : (a : ℕ) → IsByte a → 1 ≤ a → mul a (inv a) ≡ 1
mul_inv zero h some = absurd (omega arith)
mul_inv (suc k) h some = suc_inv k (omega arith)

inv_mul : (a : ℕ) → IsByte a → 1 ≤ a → mul (inv a) a ≡ 1
inv_mul a h some = mul_comm (inv a) a (inv_byte a) h ∙ mul_inv a h some

-- A quotient times what was divided by is what was divided.
pub quotient_mul : (a b : ℕ) → IsByte a → IsByte b → 1 ≤ b → mul (mul a (inv b)) b ≡ a
quotient_mul a b ha hb some = mul_assoc a (inv b) b ha (inv_byte b) hb ∙ ap (mul a) (inv_mul b hb some) ∙ mul_one a ha

pub mul_is_zero : (a b : ℕ) → IsByte a → IsByte b → mul a b ≡ 0 → (a ≡ 0) ⊎ (b ≡ 0)
mul_is_zero zero b ha hb e = inl refl
mul_is_zero (suc k) b ha hb e =
    let a : ℕ = suc k in
    inr (sym (one_mul b hb) ∙ ap (λ x. mul x b) (sym (inv_mul a ha (omega arith))) ∙ mul_assoc (inv a) a b (inv_byte a) ha hb
    ∙ ap (mul (inv a)) e ∙ mul_zero (inv a))
