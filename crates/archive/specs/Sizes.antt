-- Which numbers of drives, and of drives that are needed, are taken: 2 to 32 drives, of which 1 to all but one are needed. Assumes nothing.
use Rattle.std.specs.Prelude.{ℕ, cond, ◌||◌, List, Some, None, Ok, Err, Option, Result, nat_le, nat_lt}
use Rattle.script.specs.Digits.{number_of}
use Rattle.archive.specs.declared.sizes.Sizes.{Sizes}
use Rattle.archive.specs.declared.sizes.SizesError.{SizesError}
use Rattle.archive.specs.declared.sizes.SizesError.TheVariants.{Drives, Need}

abbrev pub need_of : ℕ → Option ℕ → Result Sizes SizesError
need_of n None = Err Need
need_of n (Some k) = cond (nat_lt k 1 || nat_le n k) (Err Need) (Ok (record { drives = n; need = k }))

abbrev pub drives_of : Option ℕ → Option ℕ → Result Sizes SizesError
drives_of None need = Err Drives
drives_of (Some n) need = cond (nat_lt n 2 || nat_lt 32 n) (Err Drives) (need_of n need)

abbrev pub sizes_of : (drives need : List ℕ) → Result Sizes SizesError
sizes_of drives need = drives_of (number_of drives) (number_of need)
