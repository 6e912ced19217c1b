-- What is outside the keeper, of one object: the bytes in the places of the drives, which drives are out, and the keeper's file; and how acts change it.
-- Assumes nothing.
use Rattle.std.specs.Prelude.{ℕ, zero, suc, ◌+◌, Bool, true, false, cond, ◌&&◌, ◌||◌, List, [], ◌∷◌, ◌++◌, Some, None, Option, ◌==◌}
use mathlib.Core.List.{Memᴰ}
use Rattle.keeper.specs.Object.{Reading, Act, write_slot, clear_slot, replace_file, Codec}
use Rattle.keeper.specs.Steps.{places}

-- What a place reads as: nothing, or a piece of a version.
pub data Slot : Type 0 where
  empty : Slot
  holds : (version : ℕ) (piece : List ℕ) → Slot

-- How the object's places are read and changed.
pub record Format : Type 0 where
  -- what the bytes of a place of a drive read as
  pub decode : (drive : ℕ) → List ℕ → Slot
  -- the bytes of a place once a record was written over what was there
  pub lay : (bytes old : List ℕ) → List ℕ
  -- the bytes of a place of a drive once the record in it was taken away
  pub wipe : (drive : ℕ) → (old : List ℕ) → List ℕ

-- How many drives there are, how many pieces give the object back, how its pieces are made, and how they lie on drives.
pub record Site : Type 0 where
  pub drives : ℕ
  pub need : ℕ
  pub codec : Codec
  pub format : Format

-- The places of the drives and the keeper's file: its number, 1 where there is no file, and the object's bar in it.
-- `once` is history: for each place the pieces, with their versions, whose writing was once begun there.
pub record Disk : Type 0 where
  pub bytes : (drive place : ℕ) → List ℕ
  pub once : (drive place : ℕ) → List (ℕ × List ℕ)
  pub out : ℕ → Bool
  pub number : ℕ
  pub bar : ℕ

-- What a place reads as.
abbrev pub slot_at : Site → Disk → (d k : ℕ) → Slot
slot_at S D d k = S.format.decode d (D.bytes d k)

-- The readings of so many places of a drive from k on, of so many drives from d on, and of all drives: those that are in, by drive and by place.
abbrev pub with_reading : (d k : ℕ) → Slot → List Reading → List Reading
with_reading d k empty rs = rs
with_reading d k (holds v p) rs = record { drive = d; place = k; version = v; piece = p } ∷ rs

unfoldable pub read_places : Site → Disk → (count d k : ℕ) → List Reading
read_places S D zero d k = []
read_places S D (suc n) d k = with_reading d k (slot_at S D d k) (read_places S D n d (suc k))

unfoldable pub read_drives : Site → Disk → (count d : ℕ) → List Reading
read_drives S D zero d = []
read_drives S D (suc n) d = cond (D.out d) [] (read_places S D places d 0) ++ read_drives S D n (suc d)

abbrev pub readings_of : Site → Disk → List Reading
readings_of S D = read_drives S D S.drives 0

-- A table with another entry for one place of one drive.
abbrev pub at : {X : Type 0} → (d k : ℕ) → X → (ℕ → ℕ → X) → ℕ → ℕ → X
at d k x f d' k' = cond (d' == d && k' == k) x (f d' k')

-- A place has these bytes from now on, and these are the pieces whose writing was once begun there.
abbrev pub placing : (d k : ℕ) → List ℕ → List (ℕ × List ℕ) → Disk → Disk
placing d k bs begun D = record { bytes = at d k bs D.bytes; once = at d k begun D.once; out = D.out; number = D.number; bar = D.bar }

-- A record's writing to a place is begun: what would be read of it is a piece whose writing was once begun there.
abbrev pub remember : Slot → List (ℕ × List ℕ) → List (ℕ × List ℕ)
remember empty begun = begun
remember (holds v p) begun = (v, p) ∷ begun

abbrev pub begun_by : Site → (d k : ℕ) → List ℕ → Disk → List (ℕ × List ℕ)
begun_by S d k bs D = remember (S.format.decode d (S.format.lay bs (D.bytes d k))) (D.once d k)

-- The file has this number and bar.
abbrev pub filing : (number bar : ℕ) → Disk → Disk
filing number bar D = record { bytes = D.bytes; once = D.once; out = D.out; number = number; bar = bar }

-- An act done whole.
abbrev pub perform : Site → Act → Disk → Disk
perform S (write_slot d k bs) D = placing d k (S.format.lay bs (D.bytes d k)) (begun_by S d k bs D) D
perform S (clear_slot d k) D = placing d k (S.format.wipe d (D.bytes d k)) (D.once d k) D
perform S (replace_file number bar) D = filing number bar D

unfoldable pub perform_all : Site → List Act → Disk → Disk
perform_all S [] D = D
perform_all S (a ∷ more) D = perform_all S more (perform S a D)

-- A reading is nothing, or one of the pieces whose writing was once begun in that place.
abbrev pub OnceBegun : List (ℕ × List ℕ) → Slot → Type 0
OnceBegun once empty = Unit {0}
OnceBegun once (holds v p) = Memᴰ (v, p) once

-- An act torn half-way: its place is left with these bytes. The file is replaced whole or not at all.
abbrev pub tear : Site → List ℕ → Act → Disk → Disk
tear S m (write_slot d k bs) D = placing d k m (begun_by S d k bs D) D
tear S m (clear_slot d k) D = placing d k m (D.once d k) D
tear S m (replace_file number bar) D = D

-- The one thing that is trusted of a torn place: it reads as nothing, or as a piece whose writing was once begun there, the present one included.
abbrev pub MayLeave : Site → List ℕ → Act → Disk → Type 0
MayLeave S m (write_slot d k bs) D = OnceBegun (begun_by S d k bs D) (S.format.decode d m)
MayLeave S m (clear_slot d k) D = OnceBegun (D.once d k) (S.format.decode d m)
MayLeave S m (replace_file number bar) D = Unit {0}

-- A list of acts cut short: so many are done, and the next one not at all or torn. It must be one of the list: all acts done is no cut.
unfoldable pub cut : Site → List Act → (count : ℕ) → Option (List ℕ) → Disk → Disk
cut S [] n left D = D
cut S (a ∷ more) zero None D = D
cut S (a ∷ more) zero (Some m) D = tear S m a D
cut S (a ∷ more) (suc n) left D = cut S more n left (perform S a D)

unfoldable pub MayCut : Site → List Act → (count : ℕ) → Option (List ℕ) → Disk → Type 0
MayCut S [] n left D = ⊥
MayCut S (a ∷ more) zero None D = Unit {0}
MayCut S (a ∷ more) zero (Some m) D = MayLeave S m a D
MayCut S (a ∷ more) (suc n) left D = MayCut S more n left (perform S a D)

-- A drive goes out; a drive is in, with these bytes in its places.
abbrev pub without : ℕ → Disk → Disk
without d D = record { bytes = D.bytes; once = D.once; out = λ x. cond (x == d) true (D.out x); number = D.number; bar = D.bar }

abbrev pub bearing : ℕ → (ℕ → List ℕ) → Disk → Disk
bearing d what D =
    record {
      bytes = λ x k. cond (x == d) (what k) (D.bytes x k);
      once = D.once;
      out = λ x. cond (x == d) false (D.out x);
      number = D.number;
      bar = D.bar;
    }

-- One of so many places of a drive from k on has a piece of the version; some place of it has.
abbrev pub is_version : ℕ → Slot → Bool
is_version v empty = false
is_version v (holds x p) = x == v

unfoldable pub has_from : Site → Disk → (count d k v : ℕ) → Bool
has_from S D zero d k v = false
has_from S D (suc n) d k v = is_version v (slot_at S D d k) || has_from S D n d (suc k) v

abbrev pub has : Site → Disk → (d v : ℕ) → Bool
has S D d v = has_from S D places d 0 v

-- How many numbers below n pass.
unfoldable pub how_many : ℕ → (ℕ → Bool) → ℕ
how_many zero p = 0
how_many (suc n) p = cond (p n) 1 0 + how_many n p
