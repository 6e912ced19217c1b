use Rattle.drives.proofs.Placing.{after_full}
use Rattle.drives.proofs.piece.write_piece.Goals as goal

pub returns-else-write_at-clause-after : goal.returns-else-write_at-clause-after
returns-else-write_at-clause-after c =
    after_full c.args.drive.now c.write_at.new.drive c.args.piece.now c.args.owner.object c.args.owner.drive c.args.version c.in-Some.index
    c.in-Some.ensures c.if-write_at.ensures.answer c.write_at.ensures.after
