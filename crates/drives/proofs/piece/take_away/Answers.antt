use Rattle.std.proofs.Common.{count_by, ap, ◌∙◌, arith}
use Rattle.std.proofs.lemmas.List.{take_all}
use Rattle.drives.specs.Place.{readings}
use Rattle.drives.specs.Rule.{names_slot}
use Rattle.drives.proofs.Counting.{length_readings}
use Rattle.drives.proofs.piece.take_away.Goals as goal

pub returns-clause-answer : goal.returns-clause-answer
returns-clause-answer c =
    let ss = readings c.args.drive.now c.args.owner.object c.args.owner.drive in
    let long = length_readings c.args.drive.now c.args.owner.object c.args.owner.drive in
    c.loop-index.invariant.1 ∙ ap (count_by (names_slot c.args.rule)) (take_all c.loop-index.index ss (omega (arith, c.loop-index.auto.index-end, c.loop-index-test.false)))
