-- What adding up a block of bytes does to the two sums of Adler's.
-- Assumes nothing.
use Rattle.std.specs.Prelude.{◌≡◌, ℕ, ◌<◌, List, ◌++◌}
use Rattle.slots.specs.Adler.{sums}

-- From `a`, `b` the block leads to `a'`, `b'`, which are reduced, whatever comes after it.
pub record Carried (a b : ℕ) (block : List ℕ) (a' b' : ℕ) : Type 0 where
  pub first_small : a' < 65521
  pub second_small : b' < 65521
  pub onward : (rest : List ℕ) → sums a b (block ++ rest) ≡ sums a' b' rest
