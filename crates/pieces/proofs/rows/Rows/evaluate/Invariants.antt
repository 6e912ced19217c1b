use Rattle.std.proofs.Common.{◌≡◌, ℕ, ◌<◌, length, get_or, drop}
use Rattle.elimination.specs.Polynomial.{value}
use Rattle.pieces.proofs.Values.{row}
use Rattle.pieces.proofs.rows.Rows.evaluate.Given as goal

-- Each place has the value of what its row has from the last column done on.
abbrev pub invariant-loop-column : goal.invariant-loop-column
invariant-loop-column l = (r : ℕ) → r < length l.initial.piece → get_or l.piece r 0 ≡ value (drop l.column (row l.self.need.count l.self.flat.items r)) l.x
