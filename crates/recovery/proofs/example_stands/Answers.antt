use Rattle.recovery.proofs.example_stands.Goals as goal
use Rattle.recovery.proofs.Example.{example}

pub returns : goal.returns
returns c = example
