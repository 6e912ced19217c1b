use Rattle.slots.specs.Layout.{slot_size}
use Rattle.drives.specs.Place.{slot_from, slot_at}
use Rattle.drives.proofs.Parting.{part_cut}
use Rattle.drives.proofs.layout.slot_of.Goals as goal

pub returns : goal.returns
unfolding slot_at
returns c = part_cut c.args.drive.now (slot_from c.args.object c.args.place.index) slot_size c.bounds.result.start c.bounds.result.end c.bounds.ensures.0 c.bounds.ensures.1
