use Rattle.recovery.proofs.highest_stands.Goals as goal
use Rattle.recovery.proofs.Safe.{takes_highest}

pub returns : goal.returns
returns c = takes_highest
