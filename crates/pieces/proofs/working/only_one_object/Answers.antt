use Rattle.pieces.proofs.Uniqueness.{worked_same}
use Rattle.pieces.proofs.working.only_one_object.Goals as goal

pub returns : goal.returns
returns c = worked_same
