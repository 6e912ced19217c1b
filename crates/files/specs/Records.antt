-- How long the record is that a slot's first fifteen bytes name, for an object and a drive.
-- Assumes nothing.
use Rattle.std.specs.Prelude.{ℕ, cond, ◌&&◌, List, length, None, Option, ◌==◌, slice_index}
use Rattle.slots.specs.Layout.{record_room}
use Rattle.slots.specs.Slot.{length_in}

-- None where they aren't all there, or begin with something else than 87, that object and that drive, or where a slot has no room for so long a record.
abbrev pub named : (o d : ℕ) → List ℕ → Option ℕ
named o d bytes =
    cond (length bytes == 15 && (slice_index bytes 0 == 87 && (slice_index bytes 1 == o && slice_index bytes 2 == d))) (record_room (length_in bytes)) None
