-- What `add_scaled` has done after so many bytes, with the rest still to be done, is the whole.
-- Assumes nothing.
use Rattle.std.proofs.Common.{◌≡◌}
use Rattle.byte_field.specs.Slices.{add_scaled}
use Rattle.byte_field.proofs.Slices.{done_from}
use Rattle.byte_field.proofs.scaled.add_scaled.Given as goal

abbrev pub invariant-loop-i : goal.invariant-loop-i
invariant-loop-i l = done_from l.factor l.i l.dst l.src ≡ add_scaled l.factor l.initial.dst l.src
