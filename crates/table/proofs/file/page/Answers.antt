use Rattle.std.proofs.Common.{get_or, vec_items, ◌∙◌}
use Rattle.std.proofs.lemmas.Slice.{pushed}
use Rattle.slots.proofs.Numbers.{bytes8}
use Rattle.table.proofs.Filing.{page_none, page_more, page_end}
use Rattle.table.proofs.file.page.Goals as goal

pub loop-bar-init : goal.loop-bar-init
loop-bar-init c =
    page_none c.args.number c.args.bars.now _ c.to_be_bytes.result
    (pushed c.to_be_bytes.result c.in_ok-bytes.ensures.items c.in_ok-extend_from_slice.was c.extend_from_slice.ensures.items)
    (c.to_be_bytes.ensures ∙ bytes8 c.args.number)

pub loop-bar-preserved : goal.loop-bar-preserved
loop-bar-preserved c =
    page_more c.args.bars.now c.loop-bar.bar-index (vec_items c.loop-bar.bytes) _ c.loop-bar.invariant _ c.to_be_bytes-in-loop-bar.result
    c.loop-bar-test.true c.in_ok-extend_from_slice-2.ensures.items (c.to_be_bytes-in-loop-bar.ensures ∙ bytes8 (get_or c.args.bars.now c.loop-bar.bar-index 0))

pub returns : goal.returns
returns c = page_end c.args.bars.now c.loop-bar.bar-index (vec_items c.loop-bar.bytes) _ c.loop-bar.invariant c.loop-bar-test.false
