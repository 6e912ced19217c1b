-- The columns before this one are reduced.
use Rattle.elimination.specs.Matrix.{Reduced}
use Rattle.elimination.specs.Shape.{SameShape}
use Rattle.elimination.proofs.matrix.Matrix.reduce.Given as goal

abbrev pub invariant-loop-q : goal.invariant-loop-q
invariant-loop-q l = SameShape l.fn.self l.self × Reduced l.fn.self.rows l.fn.self.width l.q l.fn.self.cells.items l.self.cells.items
