use Rattle.drives.proofs.Standing.{laws}
use Rattle.drives.proofs.laws.slots_apart.Goals as goal

pub returns : goal.returns
returns c = laws
