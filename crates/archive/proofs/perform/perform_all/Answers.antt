use Rattle.std.proofs.Common.{rules}
use Rattle.keeper.specs.Shown.{act_of}
use Rattle.table.specs.Table.{bars_of}
use Rattle.archive.specs.Deeds.{deed_of}
use Rattle.archive.proofs.Leading.{leads_more, leads_end}
use Rattle.archive.proofs.perform.perform_all.Goals as goal

pub loop-effect-preserved : goal.loop-effect-preserved
loop-effect-preserved g c = λ t rest.
    c.loop-effect.invariant t
    (leads_more g.D.Disks.does (λ e. deed_of (bars_of c.args.keeper.now) c.args.object (act_of e)) c.args.effects.now c.loop-effect.effect-index
    c.effect-item.result c.loop-effect.disks c.perform_one.new.disks t c.loop-effect-test.true c.effect-item.is (c.perform_one.ensures (search rules)) rest)

pub returns : goal.returns
returns g c = λ _.
    c.loop-effect.invariant c.loop-effect.disks
    (leads_end g.D.Disks.does (λ e. deed_of (bars_of c.args.keeper.now) c.args.object (act_of e)) c.args.effects.now c.loop-effect.effect-index c.loop-effect.disks c.loop-effect-test.false)
