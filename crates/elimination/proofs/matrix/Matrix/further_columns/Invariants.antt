-- The columns before this one are there.
use Rattle.std.proofs.Common.{◌≡◌, ◌+◌, ◌-◌, vec_items}
use Rattle.elimination.specs.Matrix.{blocks, column}
use Rattle.elimination.proofs.matrix.Matrix.further_columns.Given as goal

abbrev pub invariant-loop-c : goal.invariant-loop-c
invariant-loop-c l = vec_items l.out ≡ blocks (λ r. column l.self.rows (l.self.rows + (l.self.width - l.self.rows)) l.self.cells.items (l.self.rows + r)) (l.c - l.self.rows)
