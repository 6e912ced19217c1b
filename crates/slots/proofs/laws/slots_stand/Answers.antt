use Rattle.slots.proofs.Standing.{slots}
use Rattle.slots.proofs.laws.slots_stand.Goals as goal

pub returns : goal.returns
returns c = slots
