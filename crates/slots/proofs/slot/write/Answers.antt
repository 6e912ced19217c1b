use Rattle.std.proofs.Common.{◌-◌, length, ap, ◌∙◌, arith}
use Rattle.slots.specs.Layout.{put_at}
use Rattle.slots.proofs.Numbers.{bytes4}
use Rattle.slots.proofs.Writing.{room_some, has_room_lem, written_put}
use Rattle.slots.proofs.slot.write.Goals as goal

pub returns-clause-after : goal.returns-clause-after
returns-clause-after c =
    let room = room_some (length c.args.piece.now) c.in-Some.end c.in-Some.ensures in
    written_put c.args.owner.object c.args.owner.drive c.args.version (c.in-Some.end - 4) c.adler-sum.result
    c.args.piece.now c.args.slot.now c.put.new.slot c.put-2.new.slot c.put-3.new.slot (has_room_lem c.args.slot.now c.args.piece.now room.0 (omega arith)) (omega arith)
    (c.put.ensures ∙ ap (put_at c.args.slot.now 0) c.header_bytes.ensures) c.put-2.ensures c.adler-sum.ensures
    (c.put-3.ensures ∙ ap (put_at c.put-2.new.slot (c.in-Some.end - 4)) (c.to_be_bytes.ensures ∙ bytes4 c.adler-sum.result))
