use Rattle.std.proofs.Common.{◌≤◌, length, sym, ap, ◌∙◌, vec_items, arith}
use Rattle.std.specs.Option.{option_map}
use Rattle.keeper.proofs.Bridge.{record_room_lem}
use Rattle.keeper.proofs.codec.Codec.record.Goals as goal

pub unreachable-requires : goal.unreachable-requires
unreachable-requires c =
    let short : length c.as_slice.result.now ≤ 65536 = omega (arith, c.args.content.now.short, c.as_slice.ensures.len) in
    record_room_lem c.args.self.object c.args.drive c.args.version c.args.self.need c.as_slice.result.now c.as_slice-2.result.now c.args.self.some short
    (c.as_slice-2.ensures.value ∙ c.in-Ok.ensures.piece_is)
    (sym c.in_ok-record.ensures ∙ ap (option_map vec_items) c.in_default-2.is)
