use Rattle.recovery.proofs.wrong_turns_stand.Goals as goal
use Rattle.recovery.proofs.Wrong.{wrong_turns}

pub returns : goal.returns
returns c = wrong_turns
