-- A function that works contents out of their pieces, by trying every content: so that there is one. The code goes by elimination, and the law
-- `WorksOut` says all that is to be known of either.
-- Assumes nothing.
use Rattle.std.specs.Prelude.{ℕ, zero, suc, ◌≤◌, Bool, cond, not, ◌&&◌, leb, List, [], ◌∷◌, ◌++◌, map, length, Some, None, Option, ◌==◌, nat_le, nat_lt}
use Rattle.std.specs.List.{list_all}
use Rattle.std.specs.Str.{bytes_eq}
use Rattle.elimination.specs.Interpolation.{repeated}
use Rattle.pieces.specs.Rows.{MAX, LAST, piece_of}
use Rattle.keeper.specs.Real.{on_drives, WorkOut, WorksOut}

-- The lists that each number below n gives, one after the other.
unfoldable pub below : (n : ℕ) → (ℕ → List (List ℕ)) → List (List ℕ)
below zero f = []
below (suc n) f = below n f ++ f n

-- All lists of at most so many bytes: the empty one, and every byte before every list of at most one byte less.
unfoldable pub contents : ℕ → List (List ℕ)
contents zero = [] ∷ []
contents (suc n) = [] ∷ below 256 (λ b. map (λ c. b ∷ c) (contents n))

-- The first list that passes a test.
unfoldable pub first : (List ℕ → Bool) → List (List ℕ) → Option (List ℕ)
first test [] = None
first test (c ∷ cs) = cond (test c) (Some c) (first test cs)

-- Has a content these pieces: the record `Fits` as a test, field by field.
unfoldable pub fits : (need : ℕ) → List (ℕ × List ℕ) → List ℕ → Bool
fits need ps c =
    (length ps == need)
    && (list_all (λ d. leb d LAST) (on_drives ps)
    && (not (repeated (on_drives ps))
    && (list_all (λ b. nat_lt b 256) c
    && (nat_le (length c) MAX
    && list_all (λ p. bytes_eq p.1 (piece_of need p.0 c)) ps))))

-- The first content that has the pieces, if one has them.
unfoldable pub work_out_of : (need : ℕ) → WorkOut
work_out_of need ps = first (fits need ps) (contents MAX)

-- It works out what the law says, whatever number of pieces is needed but 0.
abbrev pub SomeWorksOut : Type 0
SomeWorksOut = (need : ℕ) → 1 ≤ need → WorksOut need (work_out_of need)
