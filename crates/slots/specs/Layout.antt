-- How numbers lie in a slot, and where each part of a record stands.
-- Assumes nothing.
use Rattle.std.specs.Prelude.{ℕ, zero, suc, ◌+◌, ◌-◌, ◌*◌, ◌/◌, ◌%◌, ◌^◌, cond, List, [], ◌∷◌, ◌++◌, length, take, drop, Some, None, Option, nat_le, slice_index}
use Rattle.slots.specs.Adler.{adler}

-- How many bytes a slot has room for. It stands here and in the constant `SLOT` of the code, which `slot_len` ties to it.
abbrev pub slot_size : ℕ
slot_size = 65559

-- How many bytes of a record aren't the piece's: 15 before it and 4 behind it. And how long a piece may be.
abbrev pub around : ℕ
around = 19

abbrev pub piece_room : ℕ
piece_room = slot_size - around

-- The lowest so many bytes of a number, the highest of them first.
abbrev pub bytes_of : (count n : ℕ) → List ℕ
bytes_of zero n = []
bytes_of (suc k) n = n / 256 ^ k % 256 ∷ bytes_of k n

-- The number that so many bytes from a place on spell, the highest first.
abbrev pub number_at : List ℕ → (from count : ℕ) → ℕ
number_at bytes from zero = 0
number_at bytes from (suc k) = number_at bytes from k * 256 + slice_index bytes (from + k)

-- What stands before the piece: 87, object, drive, version, length of the piece.
abbrev pub header_of : (o d v n : ℕ) → List ℕ
header_of o d v n = 87 ∷ o ∷ d ∷ (bytes_of 8 v ++ bytes_of 4 n)

-- All that the sum is of.
abbrev pub body_of : (o d v : ℕ) → List ℕ → List ℕ
body_of o d v p = header_of o d v (length p) ++ p

-- A record: the bytes by which a piece of a version of an object lies on a drive.
unfoldable pub record_of : (o d v : ℕ) → List ℕ → List ℕ
record_of o d v p = body_of o d v p ++ bytes_of 4 (adler (body_of o d v p))

-- How long the record of a piece of so many bytes is, and the record; none where a slot has no room for it.
abbrev pub record_room : ℕ → Option ℕ
record_room n = cond (nat_le n piece_room) (Some (around + n)) None

abbrev pub record_for : (o d v : ℕ) → List ℕ → Option (List ℕ)
record_for o d v p = cond (nat_le (length p) piece_room) (Some (record_of o d v p)) None

-- Bytes with a field written over them at a place.
abbrev pub put_at : List ℕ → ℕ → List ℕ → List ℕ
put_at bytes at field = take at bytes ++ (field ++ drop (at + length field) bytes)
