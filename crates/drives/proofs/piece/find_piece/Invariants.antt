use Rattle.std.proofs.Common.{◌≡◌, drop}
use Rattle.drives.specs.Place.{readings}
use Rattle.drives.specs.View.{find}
use Rattle.drives.proofs.piece.find_piece.Given as goal

abbrev pub invariant-loop-index : goal.invariant-loop-index
invariant-loop-index l =
    find l.version (readings l.drive l.owner.object l.owner.drive) ≡ find l.version (drop l.index (readings l.drive l.owner.object l.owner.drive))
