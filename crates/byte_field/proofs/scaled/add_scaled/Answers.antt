-- The turns of the loop of `add_scaled`.
-- Assumes nothing.
use Rattle.std.proofs.Common.{sym, ◌∙◌, arith, rules}
use Rattle.byte_field.proofs.Slices.{done_more, done_all}
use Rattle.byte_field.proofs.scaled.add_scaled.Goals as goal

pub loop-i-preserved : goal.loop-i-preserved
loop-i-preserved c =
    let step = done_more c.args.factor c.loop-i.i c.loop-i.dst c.args.src.now (search rules) (search rules) in
    cc

pub returns : goal.returns
returns c = sym (done_all c.args.factor c.loop-i.i c.loop-i.dst c.args.src.now (omega arith)) ∙ c.loop-i.invariant
