-- What is left of the points decides.
use Rattle.std.proofs.Common.{◌≡◌, length}
use Rattle.elimination.specs.Interpolation.{repeated}
use Rattle.elimination.proofs.has_repeat.Given as goal

abbrev pub invariant-loop-x : goal.invariant-loop-x
invariant-loop-x l = repeated l.left ≡ repeated l.points

abbrev pub decreases-loop-x : goal.decreases-loop-x
decreases-loop-x l = length l.left
