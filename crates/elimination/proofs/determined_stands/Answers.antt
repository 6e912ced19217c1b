-- The theorem is proved in Roots.
use Rattle.elimination.proofs.Roots.{determined}
use Rattle.elimination.proofs.determined_stands.Goals as goal

pub returns : goal.returns
returns c = determined
