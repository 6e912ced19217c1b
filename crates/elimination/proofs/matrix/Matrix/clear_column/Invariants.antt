-- The rows before this one are cleared.
use Rattle.std.proofs.Common.{◌≡◌, ℕ, ◌<◌, get_or}
use Rattle.elimination.specs.Matrix.{cell, Cleared}
use Rattle.elimination.specs.Shape.{SameShape}
use Rattle.elimination.proofs.matrix.Matrix.clear_column.Given as goal

abbrev pub invariant-loop-i : goal.invariant-loop-i
invariant-loop-i l =
    SameShape l.fn.self l.self
    × ((t : ℕ) → t < l.fn.self.width → get_or l.self.copied.items t 0 ≡ cell l.fn.self.width l.fn.self.cells.items l.q t)
    × Cleared l.i l.fn.self.width l.q l.fn.self.cells.items l.self.cells.items
