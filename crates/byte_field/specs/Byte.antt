-- Arithmetic with bytes in which every byte but 0 can be divided by: sums without carry, products modulo x^8 + x^4 + x^3 + x + 1.
-- Assumes nothing.
use Rattle.std.specs.Prelude.{ℕ, zero, suc, ◌+◌, ◌*◌, ◌/◌, ◌%◌, ◌<◌, cond, Some, None, Option, ◌==◌, nat_lt}

-- The sum of the lowest so many bits of two numbers, bit by bit, without carry.
unfoldable pub plus : (bits a b : ℕ) → ℕ
plus zero a b = 0
plus (suc n) a b = (a % 2 + b % 2) % 2 + 2 * plus n (a / 2) (b / 2)

-- The sum of two bytes.
unfoldable pub add : ℕ → ℕ → ℕ
add a b = plus 8 a b

-- A byte times x. 283 has the bits of x^8 + x^4 + x^3 + x + 1.
unfoldable pub twice : ℕ → ℕ
twice a = cond (nat_lt a 128) (2 * a) (plus 9 (2 * a) 283)

-- The product of `a` with the polynomial that the lowest so many bits of `b` give.
unfoldable pub times : (bits a b : ℕ) → ℕ
times zero a b = 0
times (suc n) a b = add (cond (b % 2 == 1) a 0) (times n (twice a) (b / 2))

-- The product of two bytes.
unfoldable pub mul : ℕ → ℕ → ℕ
mul a b = times 8 a b

-- The fourth power of a byte.
unfoldable pub fourth : ℕ → ℕ
fourth a = mul (mul a a) (mul a a)

-- The inverse of a byte but 0: its 254th power, since every byte but 0 to the 255th is 1. 254 is 16 * 15 + 14.
unfoldable pub inv : ℕ → ℕ
inv a =
    let second : ℕ = mul a a in
    let third : ℕ = mul second a in
    let twelfth : ℕ = fourth third in
    mul (fourth (fourth (mul twelfth third))) (mul twelfth second)

-- The inverse of a byte, where it has one: of every byte but 0.
abbrev pub inverse_of : ℕ → Option ℕ
inverse_of a = cond (a == 0) None (Some (inv a))

-- The quotient of two bytes, where there is one: by every byte but 0.
abbrev pub quotient_of : ℕ → ℕ → Option ℕ
quotient_of a b = cond (b == 0) None (Some (mul a (inv b)))

-- The numbers that a byte holds.
abbrev pub IsByte : ℕ → Type 0
IsByte a = a < 256
