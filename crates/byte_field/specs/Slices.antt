-- What adding a multiple of one row of bytes to another leaves.
-- Assumes nothing.
use Rattle.std.specs.Prelude.{ℕ, List, [], ◌∷◌}
use Rattle.byte_field.specs.Byte.{add, mul}

-- The first list, with `c` times the second added to it byte by byte, as far as both go; what stands past the second's end is as it was.
unfoldable pub add_scaled : ℕ → List ℕ → List ℕ → List ℕ
add_scaled c [] ss = []
add_scaled c (d ∷ ds) [] = d ∷ ds
add_scaled c (d ∷ ds) (s ∷ ss) = add d (mul c s) ∷ add_scaled c ds ss
