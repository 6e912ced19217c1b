use Rattle.script.proofs.Steps.{number_step}
use Rattle.std.proofs.Common.{sym}
use Rattle.script.proofs.digits.value_of.Goals as goal

pub loop-b-preserved : goal.loop-b-preserved
loop-b-preserved c =
    let step = number_step c.loop-b.n _ _ c.loop-b-test.true (sym c.if-not-is_ascii_digit.ensures.value) in
    let same = c.saturating_mul.ensures in
    (c.saturating_add-n.type_inv, cc step)
