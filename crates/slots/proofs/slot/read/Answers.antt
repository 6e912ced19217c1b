use Rattle.std.proofs.Common.{◌≡◌, ◌+◌, ◌-◌, ◌≤◌, length, take, drop, sym, ap, ◌∙◌, inl, inr, arith}
use Rattle.std.proofs.lemmas.Bool.Decides.{nat_tests}
use Rattle.std.proofs.lemmas.List.{take_all, length-drop, drop-take}
use Rattle.slots.specs.Adler.{adler}
use Rattle.slots.specs.Slot.{fits, read_slot, reading, sum_in}
use Rattle.slots.proofs.Reading.{misfit, sum_behind}
use Rattle.slots.proofs.slot.read.Goals as goal

pub returns-in_err-header : goal.returns-in_err-header
returns-in_err-header c =
    ap reading c.from_residual.ensures
    ∙ misfit c.args.owner.object c.args.owner.drive c.args.slot.now (λ h.
    let none = c.in_err-header.ensures in elim none [ inl short ↦ omega (arith, h.whole) | inr other ↦ other h.kind ])

pub returns-then-from_be_bytes-adler : goal.returns-then-from_be_bytes-adler
returns-then-from_be_bytes-adler c =
    misfit c.args.owner.object c.args.owner.drive c.args.slot.now (λ h.
    let parts = c.in_ok-summed.ensures.cases in
    let len = ap (λ n. 15 + n) c.in_ok-header.ensures.len in
    let sum = sum_behind c.args.slot.now c.in_ok-sum.sum.now (15 + c.in_ok-header.header.len) c.from_be_bytes.result len (c.in_ok-sum.ensures.cases.same ∙ ap (take 4) parts.2) c.from_be_bytes.ensures in
    let summed = parts.1 ∙ ap (λ n. take n c.args.slot.now) len in
    c.if-from_be_bytes-adler.true (sum ∙ h.sum ∙ ap adler (sym summed) ∙ sym c.adler.ensures))

pub returns : goal.returns
unfolding fits read_slot
returns c =
    let bytes = c.args.slot.now in
    let names = c.in_ok-header.ensures in
    let parts = c.in_ok-summed.ensures.cases in
    let len = ap (λ n. 15 + n) names.len in
    let sum : c.from_be_bytes.result ≡ sum_in bytes = sum_behind bytes c.in_ok-sum.sum.now (15 + c.in_ok-header.header.len) c.from_be_bytes.result len (c.in_ok-sum.ensures.cases.same ∙ ap (take 4) parts.2) c.from_be_bytes.ensures in
    let kept : length (drop 15 c.in_ok-summed.summed.now) ≤ length c.in_ok-summed.summed.now - 15 = omega (arith, length-drop 15 c.in_ok-summed.summed.now) in
    let piece = take_all _ _ kept ∙ ap (drop 15) parts.1 ∙ drop-take 15 c.in_ok-header.header.len bytes in
    grind (arith, nat_tests)
