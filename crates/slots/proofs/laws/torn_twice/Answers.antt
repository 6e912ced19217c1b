use Rattle.slots.proofs.Tearing.{torn_twice}
use Rattle.slots.proofs.laws.torn_twice.Goals as goal

pub returns : goal.returns
returns c = torn_twice
