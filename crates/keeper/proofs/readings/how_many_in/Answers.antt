use Rattle.std.proofs.Common.{sym, ◌∙◌}
use Rattle.keeper.proofs.Scan.{how_many_in_all}
use Rattle.keeper.proofs.readings.how_many_in.Goals as goal

pub returns : goal.returns
returns c = c.how_many.ensures ∙ sym (how_many_in_all c.args.present.now)
