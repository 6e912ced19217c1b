use Rattle.std.proofs.Common.{false, length, get_or, sym, ◌∙◌}
use Rattle.keeper.specs.Shown.{readings_of}
use Rattle.keeper.proofs.Scan.{all_have_none, all_have_more, all_have_not}
use Rattle.keeper.proofs.readings.all_have.Goals as goal

pub loop-drive-init : goal.loop-drive-init
loop-drive-init c = all_have_none _ _ _

pub loop-drive-preserved : goal.loop-drive-preserved
loop-drive-preserved c = all_have_more _ _ _ _ (sym c.is_out_or_holder.ensures ∙ c.if-not-is_out_or_holder.false) c.loop-drive.invariant

pub returns-then-not-is_out_or_holder : goal.returns-then-not-is_out_or_holder
returns-then-not-is_out_or_holder c =
    sym (all_have_not (λ d. get_or c.args.present.now d false) c.args.version (readings_of c.args.entries.now) c.loop-drive.drive (length c.args.present.now) c.loop-drive-test.true (sym c.is_out_or_holder.ensures ∙ c.if-not-is_out_or_holder.true))
