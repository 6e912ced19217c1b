-- The keeper's file: the number that is above every number used, a bar for each object, and Adler's sum of that, the highest byte of each number first.
-- Assumes nothing.
use Rattle.std.specs.Prelude.{◌≡◌, ℕ, zero, suc, ◌+◌, ◌*◌, ◌^◌, ◌<◌, Bool, cond, ◌&&◌, List, [], ◌∷◌, ◌++◌, length, take, Some, None, Option, ◌==◌}
use Rattle.std.specs.List.{AllByRecursion}
use Rattle.drives.specs.Place.{objects}
use Rattle.slots.specs.Adler.{adler}
use Rattle.slots.specs.Layout.{bytes_of, number_at}

-- How many bytes a file has, and how many of them its sum is of.
abbrev pub file_size : ℕ
file_size = 2060

abbrev pub sum_from : ℕ
sum_from = 2056

-- Numbers one behind the other, 8 bytes each.
unfoldable pub spelled : List ℕ → List ℕ
spelled [] = []
spelled (b ∷ bs) = bytes_of 8 b ++ spelled bs

-- All that the sum is of, and the file.
abbrev pub page_of : ℕ → List ℕ → List ℕ
page_of number bars = spelled (number ∷ bars)

unfoldable pub file_of : ℕ → List ℕ → List ℕ
file_of number bars = page_of number bars ++ bytes_of 4 (adler (page_of number bars))

-- The first so many numbers of 8 bytes each, behind the file's first.
unfoldable pub bars_in : (count : ℕ) → List ℕ → List ℕ
bars_in zero bytes = []
bars_in (suc k) bytes = bars_in k bytes ++ (number_at bytes (8 + k * 8) 8 ∷ [])

-- The bytes are as many as a file has, and their sum is right.
abbrev pub is_file : List ℕ → Bool
is_file bytes = length bytes == file_size && number_at bytes sum_from 4 == adler (take sum_from bytes)

-- The number and the bars of a file; none where it has another length or a wrong sum.
abbrev pub read_file : List ℕ → Option (ℕ × List ℕ)
read_file bytes = cond (is_file bytes) (Some (number_at bytes 0 8, bars_in objects bytes)) None

-- What is read of a written file is what was written.
abbrev pub FileReads : Type 0
FileReads =
    (number : ℕ) (bars : List ℕ) → number < 2 ^ 64 → AllByRecursion (λ b. b < 2 ^ 64) bars → length bars ≡ objects → read_file (file_of number bars) ≡ Some (number, bars)
