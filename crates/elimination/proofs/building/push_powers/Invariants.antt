-- So many powers are pushed, and the next one is at hand.
use Rattle.std.proofs.Common.{◌≡◌, ◌<◌, ◌++◌, vec_items}
use Rattle.elimination.specs.Matrix.{power, powers}
use Rattle.elimination.proofs.building.push_powers.Given as goal

abbrev pub invariant-loop-t : goal.invariant-loop-t
invariant-loop-t l = (vec_items l.cells ≡ vec_items l.initial.cells ++ powers l.x l._t) × (l.next ≡ power l.x l._t) × (l.next < 256)
