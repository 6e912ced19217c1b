use Rattle.recovery.proofs.sequel_stands.Goals as goal
use Rattle.recovery.proofs.Safe.{onward}

pub returns : goal.returns
returns c = onward
