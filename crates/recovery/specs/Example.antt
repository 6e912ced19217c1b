-- A run in which every kind of event happens, over a codec whose pieces are copies of the whole: what the promises ask of codecs and of the world can be met.
-- Assumes nothing.
use Rattle.std.specs.Prelude.{◌≡◌, ℕ, false, List, [], ◌∷◌, Some, None, Option}
use Rattle.keeper.specs.Object.{has as told}
use Rattle.recovery.specs.Disk.{Slot, empty, holds, Site}
use Rattle.recovery.specs.Laws.{Laws}
use Rattle.recovery.specs.World.{World, begin, write, finish, read, settle, outcome_of}
use Rattle.recovery.specs.Events.{first_state, Event, step, cut_short, stop, breaks_off, forgets, others, failing, goes_out, returns, after, Run}

-- Every piece is the whole, and any piece gives it back.
abbrev pub of_first : List (ℕ × List ℕ) → Option (List ℕ)
of_first [] = None
of_first (p ∷ ps) = Some p.1

-- A place has a version and then the piece, or nothing.
abbrev pub as_slot : List ℕ → Slot
as_slot [] = empty
as_slot (v ∷ p) = holds v p

-- So many drives, of which so many are needed; and three, of which two are needed.
abbrev pub copies_on : (drives need : ℕ) → Site
copies_on n need =
    record {
      drives = n;
      need = need;
      codec = record { encode = λ d v p. v ∷ p; piece_of = λ d c. c; work_out = of_first };
      format = record { decode = λ d bs. as_slot bs; lay = λ bs old. bs; wipe = λ d old. [] };
    }

abbrev pub copies : Site
copies = copies_on 3 2

abbrev pub start : World
start =
    record {
      disk = record { bytes = λ d k. []; once = λ d k. []; out = λ d. false; number = 1; bar = 0 };
      state = first_state;
      past = record { content = λ v. None; begun = []; last = 0 };
    }

unfoldable pub play : Site → List Event → World → World
play S [] w = w
play S (e ∷ more) w = play S more (after S e w)

-- A stop before there is a file. The content 7 is put: version 1, on all drives.
abbrev pub putting : List Event
putting = stop ∷ step (begin (7 ∷ [])) ∷ step (write 0) ∷ step (write 1) ∷ step (write 2) ∷ step finish ∷ []

-- Version 2, with the content 8, is begun. Its writing to drive 1 is broken off before it has begun, drive 2 fails while it is written there, and a stop tears
-- its writing to drive 0. Other objects' steps move the numbers on. Settling finds version 1 and writes it anew, as 1,027, to the two drives that are in.
abbrev pub breaking : List Event
breaking =
    step (begin (8 ∷ [])) ∷ breaks_off (write 1) 0 None ∷ failing (write 2) 0 (Some []) 2 ∷ cut_short (write 0) 0 (Some []) ∷ forgets ∷ others 1027 2049 2049 ∷
    step settle ∷ step (write 0) ∷ step (write 1) ∷ step finish ∷ []

abbrev pub settled : World
settled = play copies breaking (play copies putting start)

-- Drive 2 comes back as it was, with version 1, and goes out again.
abbrev pub ended : World
ended = after copies (goes_out 2) (after copies (returns 2 (λ k. settled.disk.bytes 2 k)) settled)

pub record Example : Type 0 where
  pub laws : Laws copies
  pub run : Run copies ended
  pub answer : (outcome_of copies ended read).reply ≡ told 1027 (7 ∷ [])
