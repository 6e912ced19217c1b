use Rattle.std.proofs.Common.{get_or, None, rules, tests}
use Rattle.drives.specs.View.{firsts}
use Rattle.drives.proofs.Counting.{made_each, firsts_filled}
use Rattle.drives.proofs.view.versions.Goals as goal

pub returns : goal.returns
returns c =
    let made = c.from_fn.ensures.items in
    let all = c.all_versions-all.result in
    firsts_filled c.args.drive.now c.args.owner.object c.args.owner.drive all c.from_fn.result c.all_versions-all.ensures made.long
    (made_each (λ k. get_or (firsts all) k None) None 4 (λ k y q h e. (search (rules, tests), search (rules, tests))) made)
