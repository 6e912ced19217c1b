-- Which versions a rule names to be taken away.
-- Assumes nothing.
use Rattle.std.specs.Prelude.{ℕ, Bool, false, not, ◌&&◌, ◌==◌, nat_lt}
use Rattle.slots.specs.Slot.{Slot, empty, holds}
use Rattle.drives.specs.declared.rule.Rule.{Rule}
use Rattle.drives.specs.declared.rule.Rule.TheVariants.{Except, ExceptBoth, Under}

abbrev pub names : Rule → ℕ → Bool
names (Except v) x = not (x == v)
names (ExceptBoth v w) x = not (x == v) && not (x == w)
names (Under v) x = nat_lt x v

-- The rule names what a slot reads as.
abbrev pub names_slot : Rule → Slot → Bool
names_slot rule empty = false
names_slot rule (holds v p) = names rule v
