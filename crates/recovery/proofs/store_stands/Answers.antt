use Rattle.recovery.proofs.store_stands.Goals as goal
use Rattle.recovery.proofs.Store.{store_safety}

pub returns : goal.returns
returns c = store_safety
