use Rattle.drives.proofs.Viewing.{views}
use Rattle.drives.proofs.laws.views_stand.Goals as goal

pub returns : goal.returns
returns c = views
