use Rattle.recovery.proofs.safety_stands.Goals as goal
use Rattle.recovery.proofs.Safe.{safety}

pub returns : goal.returns
returns c = safety
