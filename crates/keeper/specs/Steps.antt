-- The keeper's steps on one object: from the state, the pieces that are read and the step's words to the answer, the acts in their order, and the new state.
-- Each step is a chain of tests in the order of the refusals' numbers, so the lowest number wins, and a refusal changes nothing.
-- Assumes nothing.
use Rattle.std.specs.Prelude.{ℕ, ◌+◌, ◌^◌, Bool, true, cond, not, ◌&&◌, ◌||◌, List, [], ◌∷◌, ◌++◌, length, Some, None, Ok, Err, filter, Option, Result, ◌==◌, nat_le, nat_lt}
use Rattle.keeper.specs.declared.refusal.Refusal.{Refusal}
use Rattle.keeper.specs.declared.refusal.Refusal.TheVariants.{NoSuch, TooLong, Unsure, BeingWritten, NotBeingWritten, NotUnsure, DriveOut, NoPlace, NotEverywhere, TooFewIn, TooFewPieces, CountsNone, BadFile, NoMoreVersions, NoMemory}
use Rattle.keeper.specs.Object.{Knowledge, unsure, counts, writing, Reading, Act, write_slot, replace_file, Reply, done, is_version, has, none, removed, mended, found, unknown, State, Outcome, Setup, Codec, refuse}
use Rattle.keeper.specs.Readings.{holder, place_for, content_of, clears, how_many_in, all_have}

-- The number of each refusal, as it is told.
abbrev pub number : Refusal → ℕ
number NoMemory = 0
number NoSuch = 1
number TooLong = 1
number Unsure = 2
number BeingWritten = 3
number NotBeingWritten = 4
number NotUnsure = 4
number DriveOut = 5
number NoPlace = 5
number NotEverywhere = 6
number TooFewIn = 6
number TooFewPieces = 7
number CountsNone = 7
number BadFile = 8
number NoMoreVersions = 9

-- How many places a drive has for an object, how long an object may be, how far the file's number is raised at a time, and the first version number that
-- is not used any more.
abbrev pub places : ℕ
places = 4

abbrev pub longest : ℕ
longest = 65536

abbrev pub stride : ℕ
stride = 1024

abbrev pub last_number : ℕ
last_number = 2 ^ 63

-- Using the next number up: where the file's number isn't above it, that is raised.
abbrev pub raised_above : (number next : ℕ) → ℕ
raised_above number next = cond (nat_le number next) (number + stride) number

abbrev pub raised : State → ℕ
raised s = raised_above s.number s.next

-- The file is replaced where its number is raised.
abbrev pub reserve : State → List Act
reserve s = cond (nat_le s.number s.next) (replace_file (s.number + stride) s.bar ∷ []) []

-- The object is written, from a version to the next one.
abbrev pub writing_on : State → ℕ → List ℕ → State
writing_on s v c = record { known = writing v s.next c; bar = s.bar; next = s.next + 1; number = raised s }

-- A test that refuses: where it applies, the caller is told why, and nothing changes; else it goes on.
abbrev pub unless : State → Bool → Refusal → Outcome → Outcome
unless s applies e onward = cond applies (refuse s e) onward

-- A question that is answered, or refused: then the caller is told why, and nothing changes.
abbrev pub proceed : {X : Type 0} → State → Result X Refusal → (X → Outcome) → Outcome
proceed s (Ok x) onward = onward x
proceed s (Err e) onward = refuse s e

-- Which version counts; and under which version, and with what content, the object is being written.
abbrev pub counted : Knowledge → Result ℕ Refusal
counted unsure = Err Unsure
counted (writing v w c) = Err BeingWritten
counted (counts v) = Ok v

abbrev pub being_written : Knowledge → Result (ℕ × List ℕ) Refusal
being_written unsure = Err NotBeingWritten
being_written (counts v) = Err NotBeingWritten
being_written (writing v w c) = Ok (w, c)

-- A step that neither acts nor changes anything.
abbrev pub tell : State → Reply → Outcome
tell s r = record { reply = r; acts = []; state = s }

-- Begin to write an object that counts a version: it is written, from that one to the next.
abbrev pub beginning : State → List ℕ → Knowledge → Outcome
beginning s c k =
    proceed s (counted k) (λ v.
    unless s (nat_le last_number s.next) NoMoreVersions
    (record { reply = is_version s.next; acts = reserve s; state = writing_on s v c }))

abbrev pub begin : State → List ℕ → Outcome
begin s c = unless s (nat_lt longest (length c)) TooLong (beginning s c s.known)

-- Bytes go to a place of a drive, and nothing else changes.
abbrev pub placed : State → Reply → (d k : ℕ) → List ℕ → Outcome
placed s r d k bytes = record { reply = r; acts = write_slot d k bytes ∷ []; state = s }

-- A piece goes to its place on a drive, if there is one.
abbrev pub write_at : Codec → State → (d v : ℕ) → List ℕ → Reply → Option ℕ → Outcome
write_at C s d v c r None = refuse s NoPlace
write_at C s d v c r (Some k) = placed s r d k (C.encode d v (C.piece_of d c))

-- Write a piece of the new version to a drive that is in.
abbrev pub writing_to : Codec → Setup → State → ℕ → List Reading → Knowledge → Outcome
writing_to C u s d rs k =
    proceed s (being_written k) (λ w. unless s (not (u.is_in d)) DriveOut (write_at C s d w.0 w.1 done (place_for places d w.0 rs)))

abbrev pub write : Codec → Setup → State → ℕ → List Reading → Outcome
write C u s d rs = unless s (nat_le u.drives d) NoSuch (writing_to C u s d rs s.known)

-- The new version counts, and is the bar.
abbrev pub counting : State → ℕ → State
counting s w = record { known = counts w; bar = w; next = s.next; number = s.number }

-- Finish, when all drives that are in have the new version and enough are in: it counts and is the bar, in the file, and then the caller is told.
abbrev pub finish_to : Setup → State → List Reading → ℕ → Outcome
finish_to u s rs w =
    unless s (not (all_have u.drives u.is_in w rs)) NotEverywhere
    (unless s (nat_lt (how_many_in u.drives u.is_in) u.need) TooFewIn
    (record { reply = is_version w; acts = replace_file s.number w ∷ []; state = counting s w }))

abbrev pub finishing : Setup → State → List Reading → Knowledge → Outcome
finishing u s rs k = proceed s (being_written k) (λ w. finish_to u s rs w.0)

abbrev pub finish : Setup → State → List Reading → Outcome
finish u s rs = finishing u s rs s.known

-- Read an object that counts a version: any pieces of it, as many as are needed, give it; version 0 is no object.
abbrev pub read_as : State → ℕ → Option (List ℕ) → Outcome
read_as s v None = refuse s TooFewPieces
read_as s v (Some c) = tell s (has v c)

abbrev pub reading : Codec → Setup → State → List Reading → Knowledge → Outcome
reading C u s rs k = proceed s (counted k) (λ v. cond (v == 0) (tell s none) (read_as s v (content_of C u v rs)))

abbrev pub read : Codec → Setup → State → List Reading → Outcome
read C u s rs = reading C u s rs s.known

-- The readings on a drive that a rule names go, and the caller is told how many.
abbrev pub take_away : State → (Reading → Bool) → List Reading → Outcome
take_away s rule rs = record { reply = removed (length (filter rule rs)); acts = clears rule rs; state = s }

-- Tidy an object that counts a version, on a drive that is in: pieces of other versions go.
abbrev pub tidy_to : Setup → State → ℕ → List Reading → ℕ → Outcome
tidy_to u s d rs v = unless s (not (u.is_in d)) DriveOut (take_away s (λ r. (r.drive == d) && not (r.version == v)) rs)

abbrev pub tidying : Setup → State → ℕ → List Reading → Knowledge → Outcome
tidying u s d rs k = proceed s (counted k) (tidy_to u s d rs)

abbrev pub tidy : Setup → State → ℕ → List Reading → Outcome
tidy u s d rs = unless s (nat_le u.drives d) NoSuch (tidying u s d rs s.known)

-- Sweep a drive that is in, at any time: the object's pieces below its bar go.
abbrev pub sweep : Setup → State → ℕ → List Reading → Outcome
sweep u s d rs =
    unless s (nat_le u.drives d) NoSuch
    (unless s (not (u.is_in d)) DriveOut (take_away s (λ r. (r.drive == d) && nat_lt r.version s.bar) rs))

-- Mend an object on a drive that is in: where it has no piece of the version that counts, one is made of others, as many as are needed.
-- A drive that has its piece is left alone.
abbrev pub remake : Codec → State → (d v : ℕ) → Option ℕ → Option (List ℕ) → Outcome
remake C s d v None o = refuse s NoPlace
remake C s d v (Some k) None = refuse s TooFewPieces
remake C s d v (Some k) (Some c) = write_at C s d v c (mended 1) (Some k)

abbrev pub nothing_to_mend : State → Option ℕ → Outcome
nothing_to_mend s None = refuse s NoPlace
nothing_to_mend s (Some k) = refuse s CountsNone

abbrev pub mend_to : Codec → Setup → State → ℕ → List Reading → ℕ → Outcome
mend_to C u s d rs v =
    unless s (not (u.is_in d)) DriveOut
    (cond (v == 0) (nothing_to_mend s (place_for places d v rs))
    (cond (holder d v rs) (tell s (mended 0)) (remake C s d v (place_for places d v rs) (content_of C u v rs))))

abbrev pub mending : Codec → Setup → State → ℕ → List Reading → Knowledge → Outcome
mending C u s d rs k = proceed s (counted k) (mend_to C u s d rs)

abbrev pub mend : Codec → Setup → State → ℕ → List Reading → Outcome
mend C u s d rs = unless s (nat_le u.drives d) NoSuch (mending C u s d rs s.known)

-- Give up an unfinished writing: the caller is told that it isn't known, and the object is unsure.
abbrev pub forget : State → State
forget s = record { known = unsure; bar = s.bar; next = s.next; number = s.number }

abbrev pub giving_up : State → Knowledge → Outcome
giving_up s k = proceed s (being_written k) (λ w. tell (forget s) unknown)

abbrev pub give_up : State → Outcome
give_up s = giving_up s s.known

-- The better of what was found so far and a version: it isn't below the bar, isn't 0, is higher than what was found, and works out.
abbrev pub Found : Type 0
Found = Option (ℕ × List ℕ)

abbrev pub higher : ℕ → Found → Bool
higher v None = true
higher v (Some best) = nat_lt best.0 v

abbrev pub taking : ℕ → Found → Option (List ℕ) → Found
taking v best None = best
taking v best (Some c) = Some (v, c)

abbrev pub better : Codec → Setup → (bar : ℕ) → List Reading → Found → ℕ → Found
better C u bar rs best v =
    cond (nat_le 1 v && (nat_le bar v && higher v best)) (taking v best (content_of C u v rs)) best

-- The highest version that can be settled on, with its content, among those of the readings that are still to be looked at.
unfoldable pub highest : Codec → Setup → (bar : ℕ) → (all : List Reading) → Found → List Reading → Found
highest C u bar all best [] = best
highest C u bar all best (r ∷ rs) = highest C u bar all (better C u bar all best r.version) rs

-- Settle an object that is unsure: of its versions that aren't below its bar, and of which enough pieces are in and work out, the highest is written
-- anew, from that version to the next; all pieces but its and the bar's go. If there is none, the object counts 0, and the next number, used up by that,
-- is its bar, in the file: what comes back later doesn't count.
abbrev pub settling_on : State → List Reading → Found → Outcome
settling_on s rs None =
    record { reply = none; acts = replace_file (raised s) s.next ∷ []; state = record { known = counts 0; bar = s.next; next = s.next + 1; number = raised s } }
settling_on s rs (Some f) =
    record { reply = found f.0 s.next; acts = reserve s ++ clears (λ r. not (r.version == f.0 || r.version == s.bar)) rs; state = writing_on s f.0 f.1 }

abbrev pub settling : Codec → Setup → State → List Reading → Knowledge → Outcome
settling C u s rs (counts v) = refuse s NotUnsure
settling C u s rs (writing v w c) = refuse s NotUnsure
settling C u s rs unsure = unless s (nat_le last_number s.next) NoMoreVersions (settling_on s rs (highest C u s.bar rs None rs))

abbrev pub settle : Codec → Setup → State → List Reading → Outcome
settle C u s rs = settling C u s rs s.known
