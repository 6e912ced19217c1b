-- All definitions that the rows of the table compute with, under one name. The search for the version to settle on isn't one of them: it depends on what
-- pieces work out to, so it is followed by lemmas.
-- Assumes nothing.
use Rattle.byte_field.specs.Byte.{mul, times, twice, add, plus}
use Rattle.elimination.specs.Polynomial.{value}
use Rattle.pieces.specs.Rows.{framed, values, rows_for, piece_of}
use Rattle.slots.specs.Adler.{adler, sums}
use Rattle.slots.specs.Layout.{record_of}
use Rattle.slots.specs.Slot.{fits, read_slot, cleared}
use Rattle.keeper.specs.Readings.{any_of, free_place, own_place, content_of, how_many_in, all_have}
use Rattle.recovery.specs.Disk.{read_places, read_drives, perform_all, has_from, how_many}
use Rattle.recovery.specs.Example.{play}

unfoldable pub computing : Unit {0}
unfolding mul times twice add plus value framed values rows_for piece_of adler sums record_of fits read_slot cleared any_of free_place own_place content_of how_many_in all_have read_places read_drives perform_all has_from how_many play
computing = tt
