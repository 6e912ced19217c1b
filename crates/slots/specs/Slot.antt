-- What a slot's bytes hold, for an object and a drive, and what taking it away leaves.
-- Assumes nothing.
use Rattle.std.specs.Prelude.{ℕ, ◌+◌, Bool, true, false, cond, ◌&&◌, List, ◌++◌, length, take, drop, replicate, Some, None, Option, ◌==◌, nat_le, slice_index}
use Rattle.slots.specs.Adler.{adler}
use Rattle.slots.specs.Layout.{slot_size, around, piece_room, number_at, record_of}
use Rattle.slots.specs.declared.slot.Held.{Held}

-- Nothing, or a piece of a version.
pub data Slot : Type 0 where
  empty : Slot
  holds : (version : ℕ) (piece : List ℕ) → Slot

-- The version, the length of the piece and the sum that the bytes name, whether or not they fit.
abbrev pub version_in : List ℕ → ℕ
version_in bytes = number_at bytes 3 8

abbrev pub length_in : List ℕ → ℕ
length_in bytes = number_at bytes 11 4

abbrev pub sum_in : List ℕ → ℕ
sum_in bytes = number_at bytes (15 + length_in bytes) 4

-- The bytes begin with a record of that object and drive: it is all there, a slot has room for it, and its first byte, object, drive and sum are right.
-- What lies behind it doesn't matter.
unfoldable pub fits : (o d : ℕ) → List ℕ → Bool
fits o d bytes =
    nat_le (around + length_in bytes) (length bytes) && (nat_le (around + length_in bytes) slot_size
    && (slice_index bytes 0 == 87 && (slice_index bytes 1 == o && (slice_index bytes 2 == d
    && sum_in bytes == adler (take (15 + length_in bytes) bytes)))))

unfoldable pub read_slot : (o d : ℕ) → List ℕ → Slot
read_slot o d bytes = cond (fits o d bytes) (holds (version_in bytes) (take (length_in bytes) (drop 15 bytes))) empty

-- What the code's reading says.
abbrev pub reading : Option Held → Slot
reading None = empty
reading (Some h) = holds h.version h.piece.now

abbrev pub is_held : Slot → Bool
is_held empty = false
is_held (holds v p) = true

-- How many bytes the record of what a slot holds has.
abbrev pub record_length : Slot → ℕ
record_length empty = 0
record_length (holds v p) = around + length p

-- The slot once its piece was taken away: zeros over the whole record, the rest as it was.
unfoldable pub cleared : (o d : ℕ) → List ℕ → List ℕ
cleared o d bytes = replicate (record_length (read_slot o d bytes)) 0 ++ drop (record_length (read_slot o d bytes)) bytes

-- The place has room for a piece's record, and so has a slot.
abbrev pub has_room : (place piece : List ℕ) → Bool
has_room bytes p = nat_le (length p) piece_room && nat_le (around + length p) (length bytes)

-- The place once a piece was written to it: the record, and what lay behind it; all as it was where it has no room.
unfoldable pub written : (o d v : ℕ) (piece place : List ℕ) → List ℕ
written o d v p bytes = cond (has_room bytes p) (record_of o d v p ++ drop (around + length p) bytes) bytes
