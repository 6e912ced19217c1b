-- Adler's sum of bytes, as RFC 1950 has it.
-- Assumes nothing.
use Rattle.std.specs.Prelude.{ℕ, ◌+◌, ◌*◌, ◌%◌, List, [], ◌∷◌}

-- The first sum, from `a` on, adds up the bytes; the second, from `b` on, adds up what the first is after each byte; both modulo 65,521.
-- At the end the second stands in the upper 16 bits and the first in the lower.
unfoldable pub sums : (a b : ℕ) → List ℕ → ℕ
sums a b [] = b * 65536 + a
sums a b (x ∷ xs) = sums ((a + x) % 65521) ((b + (a + x) % 65521) % 65521) xs

unfoldable pub adler : List ℕ → ℕ
adler xs = sums 1 0 xs
