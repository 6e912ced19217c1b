-- So many entries of the column are pushed.
use Rattle.std.proofs.Common.{◌≡◌, ◌++◌, vec_items}
use Rattle.elimination.specs.Matrix.{column}
use Rattle.elimination.proofs.matrix.Matrix.push_column.Given as goal

abbrev pub invariant-loop-i : goal.invariant-loop-i
invariant-loop-i l = vec_items l.out ≡ vec_items l.initial.out ++ column l.i l.self.width l.self.cells.items l.c
