use Rattle.std.proofs.Common.{◌≡◌, ℕ, ◌+◌, ◌*◌, ◌<◌, ◌≤◌, get_or}
use Rattle.byte_field.specs.Byte.{add}
use Rattle.pieces.proofs.rows.Rows.add_column.Given as goal

-- The rows before r are done, and the others are as they were.
abbrev pub invariant-loop-r : goal.invariant-loop-r
invariant-loop-r l =
    ((k : ℕ) → k < l.r → get_or l.piece k 0 ≡ add (get_or l.self.flat.items (k * l.self.need.count + l.column) 0) (get_or l.initial.piece k 0))
    × ((k : ℕ) → l.r ≤ k → get_or l.piece k 0 ≡ get_or l.initial.piece k 0)
