use Rattle.std.proofs.Common.{◌≡◌, ◌++◌, map, drop, vec_items}
use Rattle.keeper.specs.Readings.{clears}
use Rattle.keeper.specs.Rules.{names}
use Rattle.keeper.specs.Shown.{act_of, readings_of}
use Rattle.keeper.proofs.clearing.clears.Given as goal

-- What was planned so far, and then what is left to plan.
abbrev pub invariant-loop-entry : goal.invariant-loop-entry
invariant-loop-entry l =
    map act_of (vec_items l.effects) ++ clears (names l.rule) (readings_of (drop l.entry-index l.entries))
    ≡ map act_of (vec_items l.initial.effects) ++ clears (names l.rule) (readings_of l.entries)
