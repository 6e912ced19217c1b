use Rattle.drives.proofs.Rereads.{rereading}
use Rattle.drives.proofs.laws.readings_stand.Goals as goal

pub returns : goal.returns
returns c = rereading
