-- The sum of bytes as an exclusive or, and the laws of sums that follow.
-- Assumes nothing.
use Rattle.std.proofs.Common.{◌≡◌, ℕ, zero, suc, ◌+◌, ◌*◌, ◌/◌, ◌%◌, ◌^◌, ◌<◌, sym, ap, ◌∙◌, mod-eq_of_lt, add-one, arith}
use native.Mathlib.Nat.{mod-one, mod-mod}
use lib.Bits.{bit_xor, xor_shr, xor_mod, xor_comm, xor_assoc, xor_self, xor_lt}
use lib.Pow.{mod-pow-add}
use Rattle.byte_field.specs.Byte.{plus, add, IsByte}
use Rattle.byte_field.proofs.Computed.{every, agree, agree₂, agree₂_at}

bit_sum : (x y : ℕ) → x < 2 → y < 2 → bit_xor x y ≡ (x + y) % 2
unfolding every agree agree₂
bit_sum = agree₂_at 2 bit_xor (λ x y. (x + y) % 2) tt

pub plus_xor : (n a b : ℕ) → plus n a b ≡ bit_xor a b % 2 ^ n
unfolding plus
plus_xor zero a b = sym (mod-one (bit_xor a b))
plus_xor (suc n) a b =
    let low : bit_xor a b % 2 ≡ (a % 2 + b % 2) % 2 = xor_mod a b 1 ∙ bit_sum (a % 2) (b % 2) (omega arith) (omega arith) in
    let high : bit_xor a b / 2 % 2 ^ n ≡ plus n (a / 2) (b / 2) = ap (λ x. x % 2 ^ n) (xor_shr a b 1) ∙ sym (plus_xor n (a / 2) (b / 2)) in
    let whole : bit_xor a b % 2 ^ (n + 1) ≡ (bit_xor a b / 2 % 2 ^ n) * 2 + bit_xor a b % 2 = mod-pow-add (bit_xor a b) n 1 in
    let same : bit_xor a b % 2 ^ (n + 1) ≡ bit_xor a b % 2 ^ suc n = ap (λ k. bit_xor a b % 2 ^ k) (add-one n) in
    omega arith

pub add_xor : (a b : ℕ) → add a b ≡ bit_xor a b % 256
unfolding add
add_xor a b = plus_xor 8 a b

-- Of bytes the sum is the exclusive or itself.
pub byte_xor : (a b : ℕ) → IsByte a → IsByte b → add a b ≡ bit_xor a b
byte_xor a b ha hb = add_xor a b ∙ mod-eq_of_lt (xor_lt 8 a b ha hb)

pub add_byte : (a b : ℕ) → IsByte (add a b)
add_byte a b = let e = add_xor a b in omega arith

pub add_comm : (a b : ℕ) → add a b ≡ add b a
add_comm a b = add_xor a b ∙ ap (λ x. x % 256) (xor_comm a b) ∙ sym (add_xor b a)

add_left : (a b c : ℕ) → add (add a b) c ≡ bit_xor (bit_xor a b) c % 256
add_left a b c =
    ap (λ x. add x c) (add_xor a b) ∙ add_xor (bit_xor a b % 256) c ∙ xor_mod (bit_xor a b % 256) c 8
    ∙ ap (λ x. bit_xor x (c % 256)) (mod-mod (bit_xor a b) 256) ∙ sym (xor_mod (bit_xor a b) c 8)

pub add_assoc : (a b c : ℕ) → add (add a b) c ≡ add a (add b c)
add_assoc a b c =
    add_left a b c ∙ ap (λ x. x % 256) (xor_assoc a b c ∙ xor_comm a (bit_xor b c)) ∙ sym (add_left b c a) ∙ add_comm (add b c) a

pub add_self : (a : ℕ) → add a a ≡ 0
add_self a = add_xor a a ∙ ap (λ x. x % 256) (xor_self a)

pub zero_add : (a : ℕ) → IsByte a → add 0 a ≡ a
zero_add a h = add_xor 0 a ∙ mod-eq_of_lt h

pub add_zero : (a : ℕ) → IsByte a → add a 0 ≡ a
add_zero a h = add_comm a 0 ∙ zero_add a h

-- Two sums, taken pair by pair in another order, of any sum in which order and grouping don't count.
pub exchange : (op : ℕ → ℕ → ℕ) → ((a b : ℕ) → op a b ≡ op b a) → ((a b c : ℕ) → op (op a b) c ≡ op a (op b c))
    → (a b c d : ℕ) → op (op a b) (op c d) ≡ op (op a c) (op b d)
exchange op comm assoc a b c d =
    assoc a b (op c d)
    ∙ ap (op a) (sym (assoc b c d) ∙ ap (λ x. op x d) (comm b c) ∙ assoc c b d)
    ∙ sym (assoc a c (op b d))

pub add_swap : (a b c d : ℕ) → add (add a b) (add c d) ≡ add (add a c) (add b d)
add_swap = exchange add add_comm add_assoc

pub add_is_zero : (a b : ℕ) → IsByte a → IsByte b → add a b ≡ 0 → a ≡ b
add_is_zero a b ha hb e =
    sym (add_zero a ha) ∙ ap (λ x. add a x) (sym (add_self b)) ∙ sym (add_assoc a b b) ∙ ap (λ x. add x b) e ∙ zero_add b hb
