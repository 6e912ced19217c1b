-- An object as rows of coefficients, and the piece that a drive has of it.
-- Assumes nothing.
use Rattle.std.specs.Prelude.{ℕ, zero, suc, ◌+◌, ◌-◌, ◌*◌, ◌/◌, ◌%◌, List, [], ◌∷◌, ◌++◌, length, take, drop, replicate}
use Rattle.elimination.specs.Polynomial.{value}

-- The most bytes that an object has.
abbrev pub MAX : ℕ
MAX = 65536

-- The most pieces that an object needs, and the highest number of a drive.
abbrev pub LAST : ℕ
LAST = 31

-- A length as 4 bytes, the high byte first.
abbrev pub length_bytes : ℕ → List ℕ
length_bytes n = n / 16777216 % 256 ∷ n / 65536 % 256 ∷ n / 256 % 256 ∷ n % 256 ∷ []

-- How many rows of `need` bytes an object of n bytes takes: those of its length and of its bytes, the last one begun.
unfoldable pub rows_for : (need n : ℕ) → ℕ
rows_for need n = (4 + n + (need - 1)) / need

-- The rows one after the other: the object's length, its bytes, and zeros that fill the last row.
unfoldable pub framed : (need : ℕ) → List ℕ → List ℕ
framed need bytes =
    length_bytes (length bytes) ++ (bytes ++ replicate (rows_for need (length bytes) * need - (4 + length bytes)) 0)

-- The values at x of so many polynomials: the first has the first `need` bytes as its coefficients, the next has the next.
unfoldable pub values : (need rows x : ℕ) → List ℕ → List ℕ
values need zero x flat = []
values need (suc rows) x flat = value (take need flat) x ∷ values need rows x (drop need flat)

-- The piece that a drive has of an object: the values of its rows at the byte that is one above the drive's number.
unfoldable pub piece_of : (need drive : ℕ) → List ℕ → List ℕ
piece_of need drive bytes = values need (rows_for need (length bytes)) (drive + 1) (framed need bytes)
