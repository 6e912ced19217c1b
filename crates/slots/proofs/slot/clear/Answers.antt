use Rattle.std.proofs.Common.{◌+◌, length, sym, arith}
use Rattle.std.proofs.lemmas.List.{length-take-le}
use Rattle.slots.proofs.Clearing.{held_within}
use Rattle.slots.proofs.slot.clear.Goals as goal

pub slice_bounds-fill-end-2 : goal.slice_bounds-fill-end-2
slice_bounds-fill-end-2 c =
    let within = held_within c.args.owner.object c.args.owner.drive c.in-Some.held.version c.in-Some.held.piece.now c.args.slot.now c.in-Some.ensures in
    sym (length-take-le (15 + length c.in-Some.held.piece.now + 4) c.args.slot.now (omega arith))
