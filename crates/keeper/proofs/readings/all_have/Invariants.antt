use Rattle.std.proofs.Common.{◌≡◌, true, false, get_or}
use Rattle.keeper.specs.Shown.{readings_of}
use Rattle.keeper.specs.Readings.{all_have}
use Rattle.keeper.proofs.readings.all_have.Given as goal

abbrev pub invariant-loop-drive : goal.invariant-loop-drive
invariant-loop-drive l = all_have l.drive (λ d. get_or l.present d false) l.version (readings_of l.entries) ≡ true
