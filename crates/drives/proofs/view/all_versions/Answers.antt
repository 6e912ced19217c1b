use Rattle.std.proofs.Common.{None, rules, tests}
use Rattle.slots.specs.Slot.{read_slot}
use Rattle.drives.specs.Place.{slot_at}
use Rattle.drives.specs.View.{version_of}
use Rattle.drives.proofs.Counting.{made_each, readings_filled}
use Rattle.drives.proofs.view.all_versions.Goals as goal

pub returns : goal.returns
returns c =
    let made = c.from_fn.ensures.items in
    readings_filled c.args.drive.now c.args.owner.object c.args.owner.drive c.from_fn.result made.long
    (made_each (λ k. version_of (read_slot c.args.owner.object c.args.owner.drive (slot_at c.args.drive.now c.args.owner.object k))) None 4
    (λ k y q h e. (search (rules, tests), search (rules, tests))) made)
