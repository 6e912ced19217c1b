-- Decimal numbers and hexadecimal bytes, as they are read and written. Assumes nothing.
use Rattle.std.specs.Prelude.{ℕ, ◌+◌, ◌-◌, ◌*◌, ◌/◌, ◌%◌, ◌^◌, min, Bool, cond, ◌&&◌, List, [], ◌∷◌, length, Some, None, Ok, Err, Option, Result, ◌==◌, nat_le, nat_lt}
use Rattle.script.specs.declared.error.LineError.{LineError}
use Rattle.script.specs.declared.error.LineError.TheVariants.{OddDigits, NotHexadecimal}

-- `b` is from `low` to `high`.
abbrev pub within : ℕ → ℕ → ℕ → Bool
within low high b = nat_le low b && nat_le b high

-- The number that decimal digits stand for, after digits that stand for `n`; the largest of 64 bits where it is larger, and None where a byte isn't a digit.
abbrev pub decimal : ℕ → List ℕ → Option ℕ
decimal n [] = Some (min n (2 ^ 64 - 1))
decimal n (b ∷ bs) = cond (within 48 57 b) (decimal (n * 10 + (b - 48)) bs) None

-- The number that a word is, where it is one.
abbrev pub number_of : List ℕ → Option ℕ
number_of word = cond (length word == 0) None (decimal 0 word)

-- The value of a hexadecimal digit.
abbrev pub nibble : ℕ → Option ℕ
nibble b =
    cond (within 48 57 b) (Some (b - 48))
    (cond (within 97 102 b) (Some (b - 97 + 10))
    (cond (within 65 70 b) (Some (b - 65 + 10)) None))

-- The byte that two hexadecimal digits stand for, the higher first.
abbrev pub byte_of : Option ℕ → Option ℕ → Option ℕ
byte_of None low = None
byte_of (Some x) None = None
byte_of (Some x) (Some y) = Some (x * 16 + y)

-- A byte before others, where there is one.
abbrev pub before : Option ℕ → Result (List ℕ) LineError → Result (List ℕ) LineError
before None rest = Err NotHexadecimal
before (Some x) (Ok bs) = Ok (x ∷ bs)
before (Some x) (Err e) = Err e

-- The bytes that pairs of hexadecimal digits stand for.
abbrev pub from_hex : List ℕ → Result (List ℕ) LineError
from_hex [] = Ok []
from_hex (a ∷ []) = Err OddDigits
from_hex (a ∷ b ∷ ds) = before (byte_of (nibble a) (nibble b)) (from_hex ds)

-- The digit for a value below 16.
abbrev pub symbol : ℕ → ℕ
symbol x = cond (nat_lt x 10) (48 + x) (97 + (x - 10))

-- Two digits for each byte, in lower case, the higher digit first.
abbrev pub to_hex : List ℕ → List ℕ
to_hex [] = []
to_hex (b ∷ bs) = symbol (b / 16) ∷ symbol (b % 16) ∷ to_hex bs
