-- What the pieces that were read of an object say: who has a version, where a new piece can go, and from what a version is worked out.
-- Assumes nothing.
use Rattle.std.specs.Prelude.{ℕ, zero, suc, ◌+◌, Bool, true, false, cond, not, ◌&&◌, ◌||◌, List, [], ◌∷◌, map, length, take, Some, None, filter, Option, ◌==◌, nat_le, nat_lt}
use Rattle.keeper.specs.Object.{Reading, Setup, Codec, Act, clear_slot}

-- Some element passes.
unfoldable pub any_of : {X : Type 0} → (X → Bool) → List X → Bool
any_of p [] = false
any_of p (x ∷ xs) = p x || any_of p xs

-- The reading is of that drive and version.
abbrev pub is_of : (d v : ℕ) → Reading → Bool
is_of d v r = r.drive == d && r.version == v

-- The drive has a piece of the version.
abbrev pub holder : (d v : ℕ) → List Reading → Bool
holder d v rs = any_of (is_of d v) rs

-- The second reading is of the same drive and version, at a lower place.
abbrev pub precedes : Reading → Reading → Bool
precedes r q = is_of r.drive r.version q && nat_lt q.place r.place

-- A lower place of the same drive has the same version: the reading is a copy, and its place counts as free.
abbrev pub copied : List Reading → Reading → Bool
copied rs r = any_of (precedes r) rs

-- The reading stands in that place of that drive, and counts.
abbrev pub counts_at : List Reading → (d k : ℕ) → Reading → Bool
counts_at rs d k r = r.drive == d && (r.place == k && not (copied rs r))

-- A place of a drive holds something that counts.
abbrev pub taken : (d k : ℕ) → List Reading → Bool
taken d k rs = any_of (counts_at rs d k) rs

-- The lowest place of a drive, of so many from k on, that is free.
unfoldable pub free_place : (count : ℕ) (d k : ℕ) → List Reading → Option ℕ
free_place zero d k rs = None
free_place (suc n) d k rs = cond (taken d k rs) (free_place n d (suc k) rs) (Some k)

-- The place of the first reading of the version on the drive.
unfoldable pub own_place : (d v : ℕ) → List Reading → Option ℕ
own_place d v [] = None
own_place d v (r ∷ rs) = cond (is_of d v r) (Some r.place) (own_place d v rs)

-- A place for a version on a drive: its own, else the lowest that is free; none where as many other versions are there as there are places.
abbrev pub place_for : (places d v : ℕ) → List Reading → Option ℕ
place_for places d v rs = cond (holder d v rs) (own_place d v rs) (free_place places d 0 rs)

-- The reading is of that version, and no copy.
abbrev pub counts_as : List Reading → ℕ → Reading → Bool
counts_as rs v r = r.version == v && not (copied rs r)

-- The pieces of a version, one from each drive that has it.
abbrev pub pieces_of : ℕ → List Reading → List Reading
pieces_of v rs = filter (counts_as rs v) rs

-- A reading as working out takes it.
abbrev pub given : Reading → ℕ × List ℕ
given r = (r.drive, r.piece)

-- The content of a version, worked out of the first of its pieces, as many as are needed; none where there are fewer, or where they don't work out.
unfoldable pub content_of : Codec → Setup → ℕ → List Reading → Option (List ℕ)
content_of C u v rs = cond (nat_le u.need (length (pieces_of v rs))) (C.work_out (map given (take u.need (pieces_of v rs)))) None

-- Every reading that a rule names is to be taken away.
abbrev pub clears : (Reading → Bool) → List Reading → List Act
clears rule rs = map (λ r. clear_slot r.drive r.place) (filter rule rs)

-- How many of the drives below n are in.
unfoldable pub how_many_in : ℕ → (ℕ → Bool) → ℕ
how_many_in zero is_in = 0
how_many_in (suc n) is_in = cond (is_in n) 1 0 + how_many_in n is_in

-- The drive is out, or has the version.
abbrev pub out_or_has : Bool → (d v : ℕ) → List Reading → Bool
out_or_has is_in d v rs = not is_in || holder d v rs

-- All drives below n that are in have the version.
unfoldable pub all_have : ℕ → (ℕ → Bool) → ℕ → List Reading → Bool
all_have zero is_in v rs = true
all_have (suc n) is_in v rs = out_or_has (is_in n) n v rs && all_have n is_in v rs
