use Rattle.std.proofs.Common.{sym, ◌∙◌}
use Rattle.keeper.specs.Found.{found_of}
use Rattle.keeper.specs.Real.{codec_of}
use Rattle.keeper.specs.Shown.{readings_of}
use Rattle.keeper.proofs.Search.{highest_more, highest_end}
use Rattle.keeper.proofs.settling.highest.Goals as goal

pub loop-entry-preserved : goal.loop-entry-preserved
loop-entry-preserved c = λ o f u right un.
    sym (highest_more (codec_of c.args.codec.need o f) u c.args.bar (readings_of c.args.view.entries.now) c.args.view.entries.now c.loop-entry.entry-index (found_of c.loop-entry.best) c.entry-item.result _ c.loop-entry-test.true c.entry-item.is (c.in_ok-best.ensures o f u right un))
    ∙ c.loop-entry.invariant o f u right un

pub returns : goal.returns
returns c = λ o f u right un.
    sym (highest_end (codec_of c.args.codec.need o f) u c.args.bar (readings_of c.args.view.entries.now) c.args.view.entries.now c.loop-entry.entry-index (found_of c.loop-entry.best) c.loop-entry-test.false)
    ∙ c.loop-entry.invariant o f u right un
