use Rattle.std.proofs.Common.{◌≡◌, ℕ, ◌<◌, ◌≤◌, get_or}
use Rattle.byte_field.specs.Byte.{mul}
use Rattle.pieces.proofs.making.scale.Given as goal

-- The rows before the present one are done, and the others are as they were.
abbrev pub invariant-loop-value : goal.invariant-loop-value
invariant-loop-value l =
    ((k : ℕ) → k < l.value-index → get_or l.piece k 0 ≡ mul l.x (get_or l.initial.piece k 0))
    × ((k : ℕ) → l.value-index ≤ k → get_or l.piece k 0 ≡ get_or l.initial.piece k 0)
