use Rattle.recovery.proofs.progress_stands.Goals as goal
use Rattle.recovery.proofs.Progress.{goes_on}

pub returns : goal.returns
returns c = goes_on
