-- What can happen to an object: the keeper's own steps, whole or cut by a stop, and what the world does; and the runs that are made of such events.
-- Assumes nothing: what is asked of the world is a premise of each of its events, and what is trusted of torn places is `OnceBegun` alone.
use Rattle.std.specs.Prelude.{◌≡◌, ℕ, ◌<◌, ◌≤◌, cond, List, [], None, Option, ◌==◌}
use mathlib.Core.List.{Memᴰ}
use Rattle.keeper.specs.Object.{Knowledge, unsure, counts, State, Outcome}
use Rattle.keeper.specs.Steps.{forget}
use Rattle.recovery.specs.Disk.{empty, Site, Disk, slot_at, perform_all, cut, MayCut, without, bearing, OnceBegun}
use Rattle.recovery.specs.World.{World, Call, begin, write, finish, read, tidy, sweep, mend, give_up, settle, outcome_of, noted, Bearable}

-- What comes from outside in a call are bytes.
abbrev pub Given : Call → Type 0
Given (begin c) = (b : ℕ) → Memᴰ b c → b < 256
Given (write d) = Unit {0}
Given finish = Unit {0}
Given read = Unit {0}
Given (tidy d) = Unit {0}
Given (sweep d) = Unit {0}
Given (mend d) = Unit {0}
Given give_up = Unit {0}
Given settle = Unit {0}

-- A whole step: its acts are done, then the keeper has its new state, and the history is told, by what was known of the object before.
abbrev pub carried_out : Site → Knowledge → Outcome → World → World
carried_out S before o w =
    record { disk = perform_all S o.acts w.disk; state = o.state; past = noted before o.state.known w.past }

abbrev pub stepped : Site → Call → World → World
stepped S c w = carried_out S w.state.known (outcome_of S w c) w

-- The state at the first start, with no file: the object counts 0, and the next version is 1.
abbrev pub first_state : State
first_state = record { known = counts 0; bar = 0; next = 1; number = 1 }

-- Coming up after a stop: the next version is the file's number, and the object is unsure. With no file it is a first start.
abbrev pub coming_up : Disk → State
coming_up D = record { known = cond (D.number == 1) (counts 0) unsure; bar = D.bar; next = D.number; number = D.number }

abbrev pub stopped : Disk → World → World
stopped D w = record { disk = D; state = coming_up D; past = w.past }

abbrev pub on_disk : Disk → World → World
on_disk D w = record { disk = D; state = w.state; past = w.past }

-- The object is unsure from now on.
abbrev pub forgotten : World → World
forgotten w = record { disk = w.disk; state = forget w.state; past = w.past }

-- Other objects' steps move the numbers that all objects share.
abbrev pub moved : (next number in_file : ℕ) → World → World
moved next number in_file w =
    record {
      disk = record { bytes = w.disk.bytes; once = w.disk.once; out = w.disk.out; number = in_file; bar = w.disk.bar };
      state = record { known = w.state.known; bar = w.state.bar; next = next; number = number };
      past = w.past;
    }

pub data Event : Type 0 where
  -- the keeper's: a whole step; one cut short by a stop (all acts done and not told is a whole step and then a stop); a stop between steps
  step : Call → Event
  cut_short : Call → (count : ℕ) → (left : Option (List ℕ)) → Event
  stop : Event
  -- a step that is broken off with no stop, as where memory is wanting: what was done stays, and the keeper goes on as it was before the step; and an object
  -- of which the keeper no longer knows anything for sure, as after such a step
  breaks_off : Call → (count : ℕ) → (left : Option (List ℕ)) → Event
  forgets : Event
  -- steps of other objects
  others : (next number in_file : ℕ) → Event
  -- the world's: a drive fails in the middle of a step: what was done stays, the drive is out, and the keeper goes on as it was before the step
  failing : Call → (count : ℕ) → (left : Option (List ℕ)) → (drive : ℕ) → Event
  -- a drive goes out
  goes_out : (drive : ℕ) → Event
  -- a drive comes back, or one that is in loses pieces: these are the bytes in its places
  returns : (drive : ℕ) → (what : ℕ → List ℕ) → Event

abbrev pub after : Site → Event → World → World
after S (step c) w = stepped S c w
after S (cut_short c n left) w = stopped (cut S (outcome_of S w c).acts n left w.disk) w
after S stop w = stopped w.disk w
after S (breaks_off c n left) w = on_disk (cut S (outcome_of S w c).acts n left w.disk) w
after S forgets w = forgotten w
after S (others next number in_file) w = moved next number in_file w
after S (failing c n left d) w = on_disk (without d (cut S (outcome_of S w c).acts n left w.disk)) w
after S (goes_out d) w = on_disk (without d w.disk) w
after S (returns d what) w = on_disk (bearing d what w.disk) w

-- What other objects' steps may do to the numbers: the next one and the keeper's go up; the file's stays above.
pub record MayMove (next number in_file : ℕ) (s : State) : Type 0 where
  pub later : s.next ≤ next
  pub higher : s.number ≤ number
  pub below : next ≤ number
  pub filed : number ≤ in_file

-- When an event may happen. That not too many drives are weak afterwards is asked of the world's events alone.
abbrev pub May : Site → Event → World → Type 0
May S (step c) w = Given c
May S (cut_short c n left) w = Given c × MayCut S (outcome_of S w c).acts n left w.disk
May S stop w = Unit {0}
May S (breaks_off c n left) w = Given c × MayCut S (outcome_of S w c).acts n left w.disk
May S forgets w = Unit {0}
May S (others next number in_file) w = MayMove next number in_file w.state
May S (failing c n left d) w = Given c × MayCut S (outcome_of S w c).acts n left w.disk × Bearable S (after S (failing c n left d) w)
May S (goes_out d) w = Bearable S (after S (goes_out d) w)
May S (returns d what) w = ((k : ℕ) → OnceBegun (w.disk.once d k) (S.format.decode d (what k))) × Bearable S (after S (returns d what) w)

-- The first start: no file, nothing on the drives, nothing used, begun or finished.
pub record First (S : Site) (w : World) : Type 0 where
  pub state : w.state ≡ first_state
  pub number : w.disk.number ≡ 1
  pub bar : w.disk.bar ≡ 0
  pub nothing : (d k : ℕ) → slot_at S w.disk d k ≡ empty
  pub unwritten : (d k : ℕ) → w.disk.once d k ≡ []
  pub unused : (v : ℕ) → w.past.content v ≡ None
  pub unbegun : w.past.begun ≡ []
  pub unfinished : w.past.last ≡ 0
  pub bearable : Bearable S w

-- Every world that events lead to from the first start.
pub data Run (S : Site) : World → Type 0 where
  first : {w : World} → First S w → Run S w
  then : {w : World} → Run S w → (e : Event) → May S e w → Run S (after S e w)
