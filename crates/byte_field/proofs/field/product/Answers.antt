-- The turns of the loop of `product`.
-- Assumes nothing.
use Rattle.std.proofs.Common.{sym, ◌∙◌, rules}
use Rattle.byte_field.proofs.Turns.{start, turn, finish}
use Rattle.byte_field.proofs.field.product.Goals as goal

pub loop-i-preserved : goal.loop-i-preserved
loop-i-preserved c =
    let e = turn c.loop-i.i c.loop-i.total c.loop-i.shifted c.args.b (search rules) in
    (search rules, cc)

pub returns : goal.returns
returns c =
    sym (finish c.loop-i.i c.loop-i.total c.loop-i.shifted c.args.b c.loop-i-test.false c.loop-i.invariant.0)
    ∙ c.loop-i.invariant.1 ∙ start c.args.a c.args.b
