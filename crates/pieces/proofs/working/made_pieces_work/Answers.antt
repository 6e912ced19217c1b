use Rattle.pieces.proofs.Uniqueness.{made_work}
use Rattle.pieces.proofs.working.made_pieces_work.Goals as goal

pub returns : goal.returns
returns c = made_work
