-- The table of worked cases: small examples, each with what comes out, by the definitions that the contracts of the code use.
-- Assumes nothing.
use Rattle.std.specs.Prelude.{◌≡◌, ℕ, List, [], ◌∷◌, ◌++◌, map, Some, slice_set}
use Rattle.byte_field.specs.Byte.{mul}
use Rattle.pieces.specs.Rows.{framed, piece_of}
use Rattle.slots.specs.Layout.{record_of}
use Rattle.keeper.specs.declared.refusal.Refusal.TheVariants.{TooFewPieces}
use Rattle.keeper.specs.Object.{Reading, Reply, refused, has, found, mended}
use Rattle.keeper.specs.Real.{WorkOut, WorksOut}
use Rattle.recovery.specs.Disk.{readings_of, how_many}
use Rattle.recovery.specs.World.{World, Call, begin, write, finish, read, mend, settle, outcome_of, weak}
use Rattle.recovery.specs.Events.{Event, step, stop, goes_out, returns, May, Run}
use Rattle.recovery.specs.Example.{play}
use Rattle.cases.specs.Store.{site, zeros, slots_with, at_first}

-- What a row of the table is about. There are three drives, and two pieces give an object back; events are those of an object from the first start on.
pub data Row : Type 0 where
  -- the product of the bytes `a` and `b` is `c`
  product : (a b c : ℕ) → Row
  -- the rows of an object, one after the other
  coefficients : (object flat : List ℕ) → Row
  -- the object's piece on a drive
  piece : (object : List ℕ) (drive : ℕ) (bytes : List ℕ) → Row
  -- the pieces, each with its drive, give the object back
  back : (pieces : List (ℕ × List ℕ)) (object : List ℕ) → Row
  -- the events may happen, as the promise about all runs has it
  happens : (events : List Event) → Row
  -- after the events this one may not happen
  may_not : (events : List Event) (next : Event) → Row
  -- after the events the call is answered so
  answer : (events : List Event) (call : Call) (reply : Reply) → Row
  -- after the events the drives that are in have these versions: drive and version, by drive and by place
  versions : (events : List Event) (those : List (ℕ × ℕ)) → Row
  -- after the events so many drives are weak
  weak_drives : (events : List Event) (count : ℕ) → Row
  -- after the events the file has this number and this bar
  filed : (events : List Event) (number bar : ℕ) → Row

abbrev pub versions_in : List Reading → List (ℕ × ℕ)
versions_in rs = map (λ r. (r.drive, r.version)) rs

-- What is claimed of the world after events, whichever function works contents out of pieces. There is one (`SomeWorksOut` of the crate codec).
-- Only what it gives is known of it here.
abbrev pub After : List Event → (WorkOut → World → Type 0) → Type 0
After events claim = (f : WorkOut) → WorksOut 2 f → claim f (play (site f) events at_first)

-- What a row claims.
abbrev pub Holds : Row → Type 0
Holds (product a b c) = mul a b ≡ c
Holds (coefficients object flat) = framed 2 object ≡ flat
Holds (piece object drive bytes) = piece_of 2 drive object ≡ bytes
Holds (back pieces object) = (f : WorkOut) → WorksOut 2 f → f pieces ≡ Some object
Holds (happens events) = After events (λ f w. Run (site f) w)
Holds (may_not events next) = After events (λ f w. May (site f) next w → ⊥)
Holds (answer events call reply) = After events (λ f w. (outcome_of (site f) w call).reply ≡ reply)
Holds (versions events those) = After events (λ f w. versions_in (readings_of (site f) w.disk) ≡ those)
Holds (weak_drives events count) = After events (λ f w. how_many 3 (weak (site f) w.disk w.past.last) ≡ count)
Holds (filed events number bar) = After events (λ f w. (w.disk.number ≡ number) × (w.disk.bar ≡ bar))

-- Every row of a list holds.
abbrev pub All : List Row → Type 0
All [] = Unit {0}
All (row ∷ others) = Holds row × All others

-- What the cases write first, and what they write then.
abbrev pub object : List ℕ
object = 5 ∷ 7 ∷ []

abbrev pub other : List ℕ
other = 1 ∷ 2 ∷ 3 ∷ []

-- The object is put while drive 2 is out; then drive 2 comes back with what it had, which is nothing.
abbrev pub put_on_two : List Event
put_on_two = goes_out 2 ∷ step (begin object) ∷ step (write 0) ∷ step (write 1) ∷ step finish ∷ []

abbrev pub back_empty : List Event
back_empty = put_on_two ++ (returns 2 (λ k. zeros) ∷ [])

-- What is being written is written to all drives, and finished.
abbrev pub to_all : List Event
to_all = step (write 0) ∷ step (write 1) ∷ step (write 2) ∷ step finish ∷ []

-- The object is put.
abbrev pub put : List Event
put = step (begin object) ∷ to_all

-- Another content is begun as version 2 and written to drive 0, or to drives 0 and 1; then there is a stop.
abbrev pub stopped_at_one : List Event
stopped_at_one = put ++ (step (begin other) ∷ step (write 0) ∷ stop ∷ [])

abbrev pub stopped_at_two : List Event
stopped_at_two = put ++ (step (begin other) ∷ step (write 0) ∷ step (write 1) ∷ stop ∷ [])

abbrev pub settled : List Event → List Event
settled events = events ++ (step settle ∷ [])

-- Version 2 went to drive 0, which is out from the stop on until version 1 was settled on and written as 1,025; then it comes back with what it had,
-- versions 1 and 2, and there is another stop.
abbrev pub at_one_lost : List Event
at_one_lost = put ++ (step (begin other) ∷ step (write 0) ∷ goes_out 0 ∷ stop ∷ [])

abbrev pub onwards : List Event
onwards =
    step (write 1) ∷ step (write 2) ∷ step finish
    ∷ returns 0 (slots_with (record_of 0 0 1 (piece_of 2 0 object)) (record_of 0 0 2 (piece_of 2 0 other))) ∷ stop ∷ []

abbrev pub late_return : List Event
late_return = settled at_one_lost ++ onwards

-- The object is put; then one byte of its piece on drive 1 changes.
abbrev pub one_byte_changed : List Event
one_byte_changed = put ++ (returns 1 (slots_with (slice_set (record_of 0 1 1 (piece_of 2 1 object)) 17 10) zeros) ∷ [])

abbrev pub table : List Row
table =
    -- x times x^7 leaves what is left of x^8
    product 2 128 27
    ∷ product 87 131 193
    -- 246 is the inverse of 3
    ∷ product 3 246 1
    -- the length, in 4 bytes, and the bytes: rows 0, 0; 0, 2; 5, 7
    ∷ coefficients object (0 ∷ 0 ∷ 0 ∷ 2 ∷ 5 ∷ 7 ∷ [])
    ∷ piece object 0 (0 ∷ 2 ∷ 2 ∷ [])
    ∷ piece object 1 (0 ∷ 4 ∷ 11 ∷ [])
    ∷ piece object 2 (0 ∷ 6 ∷ 12 ∷ [])
    -- each two of them give the object back
    ∷ back ((0, 0 ∷ 2 ∷ 2 ∷ []) ∷ (1, 0 ∷ 4 ∷ 11 ∷ []) ∷ []) object
    ∷ back ((0, 0 ∷ 2 ∷ 2 ∷ []) ∷ (2, 0 ∷ 6 ∷ 12 ∷ []) ∷ []) object
    ∷ back ((1, 0 ∷ 4 ∷ 11 ∷ []) ∷ (2, 0 ∷ 6 ∷ 12 ∷ []) ∷ []) object
    -- drives 0 and 1 have version 1, which counts
    ∷ happens put_on_two
    ∷ versions put_on_two ((0, 1) ∷ (1, 1) ∷ [])
    ∷ filed put_on_two 1025 1
    ∷ answer put_on_two read (has 1 object)
    -- drive 2 comes back: it is weak until it is mended
    ∷ happens back_empty
    ∷ weak_drives back_empty 1
    ∷ answer back_empty (mend 2) (mended 1)
    ∷ weak_drives (back_empty ++ (step (mend 2) ∷ [])) 0
    -- drive 0 is out as well before that: two are weak, more than may be, and nothing can be read
    ∷ weak_drives (back_empty ++ (goes_out 0 ∷ [])) 2
    ∷ answer (back_empty ++ (goes_out 0 ∷ [])) read (refused TooFewPieces)
    ∷ may_not back_empty (goes_out 0)
    -- version 2 was written to one drive when all stopped: settling finds version 1 and writes it as 1,025, as the file said
    ∷ happens stopped_at_one
    ∷ versions stopped_at_one ((0, 1) ∷ (0, 2) ∷ (1, 1) ∷ (2, 1) ∷ [])
    ∷ filed stopped_at_one 1025 1
    ∷ answer stopped_at_one settle (found 1 1025)
    -- the piece of version 2 is taken away
    ∷ versions (settled stopped_at_one) ((0, 1) ∷ (1, 1) ∷ (2, 1) ∷ [])
    ∷ answer (settled stopped_at_one ++ to_all) read (has 1025 object)
    -- and doesn't count any more where it was out of reach and comes back
    ∷ happens late_return
    ∷ versions late_return ((0, 1) ∷ (0, 2) ∷ (1, 1) ∷ (1, 1025) ∷ (2, 1) ∷ (2, 1025) ∷ [])
    ∷ answer late_return settle (found 1025 2049)
    -- version 2 was written to two drives when all stopped: settling finds it and writes it as 1,025
    ∷ happens stopped_at_two
    ∷ answer stopped_at_two settle (found 2 1025)
    ∷ answer (settled stopped_at_two ++ to_all) read (has 1025 other)
    -- one byte of drive 1's record changed: its piece isn't there, and the object is read from the other two
    ∷ happens one_byte_changed
    ∷ versions one_byte_changed ((0, 1) ∷ (2, 1) ∷ [])
    ∷ answer one_byte_changed read (has 1 object)
    ∷ []

-- Every row of the table holds.
abbrev pub Table : Type 0
Table = All table
