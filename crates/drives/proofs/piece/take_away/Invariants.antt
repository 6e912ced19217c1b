use Rattle.std.proofs.Common.{◌≡◌, ◌≤◌, take, count_by}
use Rattle.drives.specs.Place.{readings}
use Rattle.drives.specs.Rule.{names_slot}
use Rattle.drives.specs.Steps.{taken_below}
use Rattle.drives.proofs.piece.take_away.Given as goal

abbrev pub invariant-loop-index : goal.invariant-loop-index
invariant-loop-index l =
    (l.drive ≡ taken_below l.index l.initial.drive l.owner.object l.owner.drive l.rule) ×
    (l.gone ≡ count_by (names_slot l.rule) (take l.index (readings l.initial.drive l.owner.object l.owner.drive))) × (l.gone ≤ l.index)
