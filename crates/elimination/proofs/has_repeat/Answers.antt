-- A point that stands behind once more is told, another is passed over.
use Rattle.std.proofs.Common.{sym, ◌∙◌}
use Rattle.elimination.proofs.Points.{repeated_here, repeated_more, repeated_none}
use Rattle.elimination.proofs.has_repeat.Goals as goal

pub returns-then-contains : goal.returns-then-contains
returns-then-contains c =
    sym (repeated_here c.loop-x.left.now c.in-Some.x.now c.in-Some.behind.now c.in-Some.ensures.cases.0 c.if-contains.ensures.value) ∙ c.loop-x.invariant

pub loop-x-preserved : goal.loop-x-preserved
loop-x-preserved c =
    repeated_more c.loop-x.left.now c.in-Some.x.now c.in-Some.behind.now c.in-Some.ensures.cases.0 c.if-contains.ensures.value ∙ c.loop-x.invariant

pub returns : goal.returns
returns c = sym (repeated_none c.loop-x.left.now c.in_default.ensures.cases) ∙ c.loop-x.invariant
