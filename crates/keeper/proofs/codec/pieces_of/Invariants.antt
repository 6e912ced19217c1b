use Rattle.std.proofs.Common.{◌≡◌, ◌++◌, map, drop, vec_items, filter}
use Rattle.keeper.specs.Readings.{counts_as, pieces_of, given}
use Rattle.keeper.specs.Real.{piece_given}
use Rattle.keeper.specs.Shown.{readings_of}
use Rattle.keeper.proofs.codec.pieces_of.Given as given_of

-- What was chosen so far, and then what is left to choose.
abbrev pub invariant-loop-entry : given_of.invariant-loop-entry
invariant-loop-entry l =
    map piece_given (vec_items l.chosen) ++ map given (filter (counts_as (readings_of l.entries) l.version) (readings_of (drop l.entry-index l.entries)))
    ≡ map given (pieces_of l.version (readings_of l.entries))
