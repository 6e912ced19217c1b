-- The laws of drives: what was written is read again, what was taken away isn't, and every other slot is as it was.
-- Assumes nothing.
use Rattle.std.specs.Prelude.{◌≡◌, ℕ, ◌^◌, ◌<◌, cond, List, map, length, Some, None, Ok, ◌≢◌, slice_index_or, slice_set}
use Rattle.slots.specs.Slot.{Slot, empty, holds}
use Rattle.drives.specs.Place.{places, slot_at, with_slot, readings}
use Rattle.drives.specs.Rule.{names_slot}
use Rattle.drives.specs.View.{distinct, place_for, find}
use Rattle.drives.specs.Steps.{write_answer, after_write, after_taking}
use Rattle.drives.specs.declared.rule.Rule.{Rule}

-- What stands in a slot after it was put there.
abbrev pub SlotStands : Type 0
SlotStands = (bytes slot : List ℕ) (o k : ℕ) → length slot ≡ length (slot_at bytes o k) → slot_at (with_slot bytes o k slot) o k ≡ slot

-- Every other slot of the drive is as it was, byte for byte, and the drive is as long as it was.
abbrev pub OthersStand : Type 0
OthersStand =
    (bytes slot : List ℕ) (o k o' k' : ℕ) → k < places → k' < places → length slot ≡ length (slot_at bytes o k) → ((o ≡ o') × (k ≡ k') → ⊥) →
    slot_at (with_slot bytes o k slot) o' k' ≡ slot_at bytes o' k'

abbrev pub LengthStands : Type 0
LengthStands = (bytes slot : List ℕ) (o k : ℕ) → length slot ≡ length (slot_at bytes o k) → length (with_slot bytes o k slot) ≡ length bytes

-- Once a piece was written, the object's readings are as they were but at its place, which holds the piece: what is read is what was written.
abbrev pub WriteReads : Type 0
WriteReads =
    (bytes p : List ℕ) (o d v k : ℕ) → v < 2 ^ 64 → write_answer bytes o d v p ≡ Ok k → readings (after_write bytes o d v p) o d ≡ slice_set (readings bytes o d) k (holds v p)

-- Once pieces were taken away, what the rule names isn't there any more, and all else is read as it was.
abbrev pub TakingReads : Type 0
TakingReads =
    (bytes : List ℕ) (o d : ℕ) (rule : Rule) → readings (after_taking bytes o d rule) o d ≡ map (λ s. cond (names_slot rule s) empty s) (readings bytes o d)

-- And neither changes a byte of another object's slots.
abbrev pub OtherObjects : Type 0
OtherObjects =
    (bytes p : List ℕ) (o d v o' k' : ℕ) (rule : Rule) → (o ≢ o') → k' < places →
    (slot_at (after_write bytes o d v p) o' k' ≡ slot_at bytes o' k') × (slot_at (after_taking bytes o d rule) o' k' ≡ slot_at bytes o' k')

pub record Apart : Type 0 where
  pub stands : SlotStands
  pub others : OthersStand
  pub long : LengthStands

pub record Rereading : Type 0 where
  pub write : WriteReads
  pub take : TakingReads
  pub others : OtherObjects

-- What is written at the place for a version is found as that version's piece.
abbrev pub FindsWritten : Type 0
FindsWritten = (v k : ℕ) (p : List ℕ) (slots : List Slot) → place_for v slots ≡ Some k → find v (slice_set slots k (holds v p)) ≡ Some p

-- No other version's piece is lost or hidden by it.
abbrev pub KeepsOthers : Type 0
KeepsOthers =
    (v w k : ℕ) (p : List ℕ) (slots : List Slot) → place_for v slots ≡ Some k → (w ≢ v) → find w (slice_set slots k (holds v p)) ≡ find w slots

-- And there is no place only where every place has another version, no two the same: none is empty, and none a copy.
abbrev pub OnlyFull : Type 0
OnlyFull =
    (v : ℕ) (slots : List Slot) → place_for v slots ≡ None → (k : ℕ) → k < length slots →
    (w : ℕ) × (q : List ℕ) × (slice_index_or (distinct slots) k empty ≡ holds w q) × (w ≢ v)

pub record Views : Type 0 where
  pub finds : FindsWritten
  pub keeps : KeepsOthers
  pub full : OnlyFull
