use Rattle.std.proofs.Common.{◌≡◌, ◌-◌}
use Rattle.keeper.specs.Shown.{readings_of}
use Rattle.keeper.specs.Steps.{places}
use Rattle.keeper.specs.Readings.{free_place}
use Rattle.keeper.proofs.readings.free_place.Given as goal

-- What is left decides.
abbrev pub invariant-loop-place : goal.invariant-loop-place
invariant-loop-place l = free_place (places - l.place) l.drive l.place (readings_of l.entries) ≡ free_place places l.drive 0 (readings_of l.entries)
