-- What a change of a matrix keeps.
-- Assumes nothing.
use Rattle.std.specs.Prelude.{◌≡◌}
use Rattle.elimination.specs.declared.matrix.Matrix.{Matrix}

-- As many rows and columns as before.
pub record SameShape (m m' : Matrix) : Type 0 where
  pub rows : m'.rows ≡ m.rows
  pub width : m'.width ≡ m.width
