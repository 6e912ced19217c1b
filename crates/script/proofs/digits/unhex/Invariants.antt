use Rattle.std.proofs.Common.{◌≡◌, ◌+◌, ◌/◌, ◌≤◌, length, vec_items, vec_len, vec_capacity}
use Rattle.script.specs.Digits.{from_hex}
use Rattle.script.proofs.Steps.{onto}
use Rattle.script.proofs.digits.unhex.Given as goal

abbrev pub invariant-loop-left : goal.invariant-loop-left
invariant-loop-left l = (onto (vec_items l.bytes) (from_hex l.left) ≡ from_hex l.digits) × (vec_len l.bytes + length l.left / 2 ≤ vec_capacity l.bytes)

abbrev pub decreases-loop-left : goal.decreases-loop-left
decreases-loop-left l = length l.left
