use Rattle.std.proofs.Common.{◌∙◌, eqb, rules, tests}
use Rattle.std.specs.Option.{option_eq}
use Rattle.std.proofs.lemmas.Iterator.{YieldsList-from_slice}
use Rattle.std.proofs.lemmas.Iterator.Search.{position_from_yields_List}
use Rattle.drives.proofs.Finding.{index_position}
use Rattle.drives.proofs.view.index_of.Goals as goal

pub returns : goal.returns
returns c =
    position_from_yields_List (option_eq eqb c.args.wanted) _ _ _ c.position.ensures.ran (YieldsList-from_slice c.args.versions.now cc) (λ x b q k. search (rules, tests))
    ∙ index_position c.args.wanted c.args.versions.now
