-- Where the slots of an object lie on a drive.
-- Assumes nothing.
use Rattle.std.specs.Prelude.{ℕ, ◌+◌, ◌*◌, List, ◌++◌, map, take, drop}
use Rattle.std.specs.List.{range_with_len}
use Rattle.slots.specs.Layout.{slot_size}
use Rattle.slots.specs.Slot.{Slot, read_slot}

-- How many places a drive has for an object, and how many objects there are. Both stand here and in the constants `PLACES` and `OBJECTS` of the code,
-- which `sizes` ties to them.
abbrev pub places : ℕ
places = 4

abbrev pub objects : ℕ
objects = 256

-- The byte at which the slot at a place of an object begins: object by object, and in each place by place.
abbrev pub slot_from : (o k : ℕ) → ℕ
slot_from o k = (o * places + k) * slot_size

-- That slot's bytes on a drive; what lies past the drive's end isn't there.
unfoldable pub slot_at : List ℕ → (o k : ℕ) → List ℕ
slot_at bytes o k = take slot_size (drop (slot_from o k) bytes)

-- The drive with other bytes in that slot.
unfoldable pub with_slot : List ℕ → (o k : ℕ) → List ℕ → List ℕ
with_slot bytes o k slot = take (slot_from o k) bytes ++ (slot ++ drop (slot_from o k + slot_size) bytes)

-- What is read at each place of an object on drive `d`, from the lowest place on.
unfoldable pub readings : List ℕ → (o d : ℕ) → List Slot
readings bytes o d = map (λ k. read_slot o d (slot_at bytes o k)) (range_with_len 0 places)
