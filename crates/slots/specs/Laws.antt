-- The laws of slots: what was written is read, what was taken away isn't, and only the record's own bytes matter.
-- Assumes nothing.
use Rattle.std.specs.Prelude.{◌≡◌, ℕ, ◌^◌, ◌<◌, ◌≤◌, List, [], ◌∷◌, ◌++◌, length, take, replicate}
use Rattle.slots.specs.Layout.{record_of, piece_room}
use Rattle.slots.specs.Slot.{empty, holds, read_slot, record_length, cleared}
use Rattle.slots.specs.Mixture.{Mixture}

-- What is read of a record is what was written, whatever lies behind it. The bounds are those of a version's 8 bytes and of a slot's room.
abbrev pub ReadsWritten : Type 0
ReadsWritten =
    (o d v : ℕ) (p rest : List ℕ) → v < 2 ^ 64 → length p ≤ piece_room → read_slot o d (record_of o d v p ++ rest) ≡ holds v p

-- What was taken away isn't there any more.
abbrev pub ClearedReadsEmpty : Type 0
ClearedReadsEmpty = (o d : ℕ) (bytes : List ℕ) → read_slot o d (cleared o d bytes) ≡ empty

-- A reading is made from the record's own bytes alone.
abbrev pub ReadsPrefix : Type 0
ReadsPrefix =
    (o d v n : ℕ) (p bytes : List ℕ) → read_slot o d bytes ≡ holds v p → record_length (holds v p) ≤ n → read_slot o d (take n bytes) ≡ holds v p

-- And another object's or drive's number isn't that object's or that drive's.
abbrev pub ReadsOwn : Type 0
ReadsOwn =
    (o d o' d' v v' : ℕ) (p p' bytes : List ℕ) → read_slot o d bytes ≡ holds v p → read_slot o' d' bytes ≡ holds v' p' → (o ≡ o') × (d ≡ d')

pub record Slots : Type 0 where
  pub written : ReadsWritten
  pub cleared : ClearedReadsEmpty
  pub prefix : ReadsPrefix
  pub own : ReadsOwn

-- The run that breaks the stronger wording of what is trusted of torn slots, on an empty slot of object 0 on drive 0 with a piece of one byte:
-- `first` is what a torn writing of version 1025 leaves, `second` what a torn writing of 2049 leaves of that.
pub record TornTwice : Type 0 where
  pub first : List ℕ
  pub second : List ℕ
  pub torn : Mixture (replicate 20 0) (record_of 0 0 1025 (7 ∷ [])) first
  pub lost : read_slot 0 0 first ≡ empty
  pub again : Mixture first (record_of 0 0 2049 (7 ∷ [])) second
  pub back : read_slot 0 0 second ≡ holds 1025 (7 ∷ [])
