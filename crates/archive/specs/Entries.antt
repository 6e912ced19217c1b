-- What is said of a slot's bytes once they were read as a piece of a drive, at a place there.
-- Assumes nothing.
use Rattle.std.specs.Prelude.{◌≡◌, ℕ, Some, None, Option, vec_items}
use Rattle.slots.specs.Slot.{Slot, empty, holds}
use Rattle.keeper.specs.declared.object.Entry.{Entry}

-- None where the slot holds nothing; else its version and piece, of that drive and place.
abbrev pub Lies : (drive place : ℕ) → Option Entry → Slot → Type 0
Lies d k None s = s ≡ empty
Lies d k (Some e) s = (e.drive ≡ d) × ((e.place ≡ k) × (s ≡ holds e.version (vec_items e.piece)))
