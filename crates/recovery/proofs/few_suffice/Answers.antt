use Rattle.recovery.proofs.few_suffice.Goals as goal
use Rattle.recovery.proofs.Needed.{few_suffice}

pub returns : goal.returns
returns c = few_suffice
