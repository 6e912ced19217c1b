use Rattle.std.proofs.Common.{cond, get_or, take, None, sym, ap, ◌∙◌}
use Rattle.drives.proofs.Counting.{get_or_firsts}
use Rattle.drives.proofs.Finding.{index_any}
use Rattle.drives.proofs.view.first_at.Goals as goal

pub returns-then-contains : goal.returns-then-contains
returns-then-contains c =
    let all = c.args.all.now in
    let x = get_or all c.args.place None in
    sym (get_or_firsts all c.args.place c.requires ∙ ap (λ b. cond b None x) (sym (index_any x (take c.args.place all)) ∙ sym c.contains.ensures.value ∙ c.if-contains.true))

pub returns-else-contains : goal.returns-else-contains
returns-else-contains c =
    let all = c.args.all.now in
    let x = get_or all c.args.place None in
    sym (get_or_firsts all c.args.place c.requires ∙ ap (λ b. cond b None x) (sym (index_any x (take c.args.place all)) ∙ sym c.contains.ensures.value ∙ c.if-contains.false))
