use Rattle.std.proofs.Common.{◌≡◌, codes, arith, rules}
use Rattle.std.proofs.lemmas.Slice.Eq.{text_from_reads}
use Rattle.script.proofs.command.verb_of.Goals as goal

pub returns-in-count : goal.returns-in-count
returns-in-count c =
    let word : c.args.word.now ≡ codes "count" = text_from_reads _ _ (omega arith) (search rules) in
    rw word

pub returns-in-finish : goal.returns-in-finish
returns-in-finish c =
    let word : c.args.word.now ≡ codes "finish" = text_from_reads _ _ (omega arith) (search rules) in
    rw word

pub returns-in-settle : goal.returns-in-settle
returns-in-settle c =
    let word : c.args.word.now ≡ codes "settle" = text_from_reads _ _ (omega arith) (search rules) in
    rw word
