use Rattle.pieces.proofs.Values.{rows_determined}
use Rattle.pieces.proofs.working.rows_are_determined.Goals as goal

pub returns : goal.returns
returns c = rows_determined
