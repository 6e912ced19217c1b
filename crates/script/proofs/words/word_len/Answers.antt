use Rattle.std.proofs.Common.{◌∙◌, eqb, rules, tests}
use Rattle.std.proofs.lemmas.Iterator.{YieldsList-from_slice}
use Rattle.std.proofs.lemmas.Iterator.Search.{position_from_yields_List}
use Rattle.script.proofs.Places.{place_or_end}
use Rattle.script.proofs.words.word_len.Goals as goal

pub returns-clause-count : goal.returns-clause-count
returns-clause-count c =
    let line = c.args.line.now in
    c.unwrap_or.ensures
    ∙ place_or_end (λ b. eqb b 32) line c.position.result
    (position_from_yields_List (λ b. eqb b 32) _ _ _ c.position.ensures.ran (YieldsList-from_slice line cc) (λ x b q k. search (rules, tests)))
