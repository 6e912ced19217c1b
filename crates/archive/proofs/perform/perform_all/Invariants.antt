use Rattle.std.proofs.Common.{drop}
use Rattle.table.specs.Table.{bars_of}
use Rattle.archive.specs.Deeds.{deeds_of, Leads}
use Rattle.archive.proofs.perform.perform_all.Given as goal

-- Where what is left to do leads to, all of it leads to.
abbrev pub invariant-loop-effect : goal.invariant-loop-effect
invariant-loop-effect g l =
    (t : _) →
    Leads g.D.Disks.does (deeds_of (bars_of l.keeper) l.object (drop l.effect-index l.effects)) l.disks t →
    Leads g.D.Disks.does (deeds_of (bars_of l.keeper) l.object l.effects) l.initial.disks t
