use Rattle.std.proofs.Common.{◌≡◌, ◌≤◌, take}
use Rattle.drives.specs.State.{how_many}
use Rattle.drives.proofs.states.how_many.Given as goal

abbrev pub invariant-loop-flag : goal.invariant-loop-flag
invariant-loop-flag l = (l.n ≡ how_many (take l.flag-index l.flags)) × (l.n ≤ l.flag-index)
