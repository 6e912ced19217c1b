use Rattle.std.proofs.Common.{sym, ◌∙◌, rules, tests}
use Rattle.std.proofs.lemmas.Iterator.{YieldsList-from_slice}
use Rattle.std.proofs.lemmas.Iterator.Search.{any_from_yields_List}
use Rattle.keeper.specs.Readings.{precedes}
use Rattle.keeper.specs.Shown.{reading_of}
use Rattle.keeper.proofs.Scan.{any_seen}
use Rattle.keeper.proofs.readings.is_copy.Goals as goal

pub returns : goal.returns
returns c =
    any_from_yields_List (λ e. precedes (reading_of c.args.copy.now) (reading_of e)) _ _ _ c.any.ensures.ran (YieldsList-from_slice c.args.entries.now (cc)) (λ x b q k. search (rules, tests))
    ∙ sym (any_seen (precedes (reading_of c.args.copy.now)) reading_of c.args.entries.now)
