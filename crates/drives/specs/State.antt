-- Which drives are in: definitions over the list of thirty-two flags and the count of drives.
-- Assumes nothing.
use Rattle.std.specs.Prelude.{ℕ, Bool, false, cond, ◌&&◌, List, count_by, nat_le, nat_lt, slice_index_or, slice_set}

-- There may be 2 to 32 drives. The bound stands here and in the constant `MOST` of the code, which `Drives::new` ties to it.
abbrev pub most_drives : ℕ
most_drives = 32

abbrev pub may_count : ℕ → Bool
may_count n = nat_le 2 n && nat_le n most_drives

-- Drive `d` is one of `n`, and in.
abbrev pub in_at : (n : ℕ) → List Bool → ℕ → Bool
in_at n flags d = nat_lt d n && slice_index_or flags d false

-- The flags once drive `d` was put in or taken out; as they were where there is no such drive.
abbrev pub set_at : (n : ℕ) → List Bool → ℕ → Bool → List Bool
set_at n flags d b = cond (nat_lt d n) (slice_set flags d b) flags

-- How many flags are true; how many of the `n` drives are in.
abbrev pub how_many : List Bool → ℕ
how_many flags = count_by (λ b. b) flags
