-- The theorem of the whole at the real codec and slots.
use Rattle.codec.proofs.Real.{real_promise}
use Rattle.codec.proofs.promise_stands.Goals as goal

pub returns : goal.returns
returns c = real_promise c.codec_stands.ensures c.real_stands.ensures c.sequel_stands.ensures
