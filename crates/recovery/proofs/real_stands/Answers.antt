use Rattle.recovery.proofs.real_stands.Goals as goal
use Rattle.recovery.proofs.Real.{real}

pub returns : goal.returns
returns c = real
