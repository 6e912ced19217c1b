-- What the code's masks and shifts of a byte come to.
-- Assumes nothing.
use Rattle.std.proofs.Common.{◌≡◌, ℕ, zero, suc, ◌*◌, ◌/◌, ◌%◌, ◌<◌, cond, eqb, ap, ◌∙◌, mod-eq_of_lt, arith}
use lib.Bits.{bit_and, bit_xor, and_mask, and_zero_r}
use Rattle.byte_field.specs.Byte.{plus, twice, IsByte}
use Rattle.byte_field.proofs.Computed.{every, agree, agree_at}

-- A byte under 255 times a bit.
times_bit : (byte bit : ℕ) → IsByte byte → bit < 2 → bit_and byte (bit * 255) ≡ cond (eqb bit 1) byte 0
times_bit byte zero h below = and_zero_r byte
times_bit byte (suc zero) h below = and_mask byte 8 ∙ mod-eq_of_lt h
times_bit byte (suc (suc bit)) h below = absurd (omega arith)

pub masked : (byte n : ℕ) → IsByte byte → bit_and byte (bit_and n 1 * 255) ≡ cond (eqb (n % 2) 1) byte 0
masked byte n h = ap (λ m. bit_and byte (m * 255)) (and_mask n 1) ∙ times_bit byte (n % 2) h (omega arith)

-- The shift loses the bit that the polynomial takes off.
pub shifted : (byte : ℕ) → IsByte byte → bit_xor (byte * 2 % 256) (cond (eqb (byte / 128 % 2) 1) 27 0) ≡ twice byte
unfolding every agree twice plus
shifted = agree_at 256 (λ x. bit_xor (x * 2 % 256) (cond (eqb (x / 128 % 2) 1) 27 0)) twice tt
