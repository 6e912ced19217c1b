-- Trying every content works.
use Rattle.codec.proofs.Trying.{some_works_out}
use Rattle.codec.proofs.codec_stands.Goals as goal

pub returns : goal.returns
returns c = some_works_out
