-- So many rows are there.
use Rattle.std.proofs.Common.{◌≡◌, vec_items}
use Rattle.elimination.specs.Matrix.{blocks, row_of}
use Rattle.elimination.proofs.matrix.Matrix.of.Given as goal

abbrev pub invariant-loop-i : goal.invariant-loop-i
invariant-loop-i l = vec_items l.cells ≡ blocks (row_of l.points l.values l.width) l.i
