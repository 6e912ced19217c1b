-- The table of all objects: what stands in it for one object, and what a step leaves of it.
-- Assumes nothing.
use Rattle.std.specs.Prelude.{◌≡◌, ℕ, ◌<◌, Bool, true, cond, ◌&&◌, ◌⊎◌, List, map, take, replicate, Some, None, Ok, Err, vec_items, Option, Result, MatchResult, ◌≢◌, nat_le, nat_lt, slice_index, slice_index_or, slice_set}
use Rattle.std.specs.Option.{ok_or}
use Rattle.drives.specs.Place.{objects}
use Rattle.drives.specs.declared.states.Drives.{Drives}
use Rattle.keeper.specs.declared.refusal.Refusal.{Refusal}
use Rattle.keeper.specs.declared.refusal.Refusal.TheVariants.{NoSuch, BadFile, NoMemory}
use Rattle.table.specs.declared.table.Keeper.{Keeper}
use Rattle.table.specs.File.{read_file}
use Rattle.keeper.specs.Object.{Knowledge, unsure, counts, writing, State, Outcome, Setup}
use Rattle.keeper.specs.Shown.{known_of, setup_of}
use Rattle.keeper.specs.Steps.{unless}

-- What is known of each object, and the bars.
abbrev pub knowledge : Keeper → List Knowledge
knowledge k = map (λ r. known_of r.known) (vec_items k.rows)

abbrev pub bars_of : Keeper → List ℕ
bars_of k = map (λ r. r.bar) (vec_items k.rows)

-- The state of an object, with the numbers that all objects share.
abbrev pub state_at : Keeper → ℕ → State
state_at k o = record { known = slice_index_or (knowledge k) o unsure; bar = slice_index (bars_of k) o; next = k.numbers.next; number = k.numbers.file }

-- For each drive whether it is in; and the drives as the steps take them.
abbrev pub flags_of : Drives → List Bool
flags_of ds = take ds.count ds.present

abbrev pub setup_in : Keeper → Setup
setup_in k = setup_of k.need (flags_of k.drives)

-- A step on an object: refused where there is no such object.
abbrev pub on_object : ℕ → State → (State → Outcome) → Outcome
on_object o s plan = unless s (nat_le objects o) NoSuch (plan s)

-- While a step's effects are done, the object stands as unsure; nothing else has changed.
pub record Lent (before after : Keeper) (o : ℕ) : Type 0 where
  pub need : after.need ≡ before.need
  pub drives : after.drives ≡ before.drives
  pub known : knowledge after ≡ slice_set (knowledge before) o unsure
  pub bars : bars_of after ≡ bars_of before
  pub next : after.numbers.next ≡ before.numbers.next
  pub number : after.numbers.file ≡ before.numbers.file

-- The object's state stands in the table again, and with it the numbers; nothing changes where there is no such object.
pub record Accepted (before after : Keeper) (o : ℕ) (s : State) : Type 0 where
  pub need : after.need ≡ before.need
  pub drives : after.drives ≡ before.drives
  pub known : knowledge after ≡ slice_set (knowledge before) o s.known
  pub bars : bars_of after ≡ slice_set (bars_of before) o s.bar
  pub next : after.numbers.next ≡ cond (nat_lt o objects) s.next before.numbers.next
  pub number : after.numbers.file ≡ cond (nat_lt o objects) s.number before.numbers.file

-- Only which drives are in has changed.
pub record Moved (before after : Keeper) : Type 0 where
  pub need : after.need ≡ before.need
  pub count : after.drives.count ≡ before.drives.count
  pub known : knowledge after ≡ knowledge before
  pub bars : bars_of after ≡ bars_of before
  pub next : after.numbers.next ≡ before.numbers.next
  pub number : after.numbers.file ≡ before.numbers.file

-- The version that an object counts, if that is known.
abbrev pub counted_of : Knowledge → Option ℕ
counted_of unsure = None
counted_of (counts v) = Some v
counted_of (writing v w c) = None

-- And what is known where a version counts, and where none is sure.
abbrev pub knowing_of : Option ℕ → Knowledge
knowing_of None = unsure
knowing_of (Some v) = counts v

-- Of so many drives, so many may be needed.
abbrev pub may_need : (drives need : ℕ) → Bool
may_need n need = nat_lt 0 need && nat_lt need n

-- A keeper that starts with no file: every object counts no version, and nothing was used.
pub record First (n need : ℕ) (k : Keeper) : Type 0 where
  pub count : k.drives.count ≡ n
  pub present : k.drives.present ≡ replicate 32 true
  pub needs : k.need ≡ need
  pub known : knowledge k ≡ replicate objects (counts 0)
  pub bars : bars_of k ≡ replicate objects 0
  pub next : k.numbers.next ≡ 1
  pub number : k.numbers.file ≡ 1

-- What coming up with a file takes from it: its number and its bars. The lowest number of a refusal wins.
abbrev pub coming_up : (n need : ℕ) → List ℕ → Result (ℕ × List ℕ) Refusal
coming_up n need bytes = cond (may_need n need) (ok_or (read_file bytes) BadFile) (Err NoSuch)

-- What a first start takes: no number was used, and every bar is 0. Where a drive that is in holds a piece, it is no first start: the file was lost.
abbrev pub first_start : (n need : ℕ) → (holds : Bool) → Result (ℕ × List ℕ) Refusal
first_start n need holds = cond (may_need n need) (cond holds (Err BadFile) (Ok (1, replicate objects 0))) (Err NoSuch)

-- What a start takes, with a file or with none.
abbrev pub starting : (n need : ℕ) → Option (List ℕ) → (holds : Bool) → Result (ℕ × List ℕ) Refusal
starting n need None holds = first_start n need holds
starting n need (Some bytes) holds = coming_up n need bytes

-- What is known of each object then: with no file it counts no version, and after a stop none is sure.
abbrev pub known_at : Option (List ℕ) → Knowledge
known_at None = counts 0
known_at (Some bytes) = unsure

-- A keeper that started on these drives: each object is known so, and the next number is the one that was taken, which is above every number used.
pub record Started (ds : Drives) (need : ℕ) (each : Knowledge) (numbers : Result (ℕ × List ℕ) Refusal) (k : Keeper) : Type 0 where
  pub drives : k.drives ≡ ds
  pub needs : k.need ≡ need
  pub known : knowledge k ≡ replicate objects each
  pub taken : numbers ≡ Ok (k.numbers.file, bars_of k)
  pub next : k.numbers.next ≡ k.numbers.file

-- A keeper that came up: every object is unsure, and the next number is the file's, which is above every number used.
abbrev pub Up : (ds : Drives) (need : ℕ) (bytes : List ℕ) → Keeper → Type 0
Up ds need bytes k = Started ds need unsure (coming_up ds.count need bytes) k

-- A start gives such a keeper, or refuses as what is taken is refused, or for want of memory.
abbrev pub Starts : (ds : Drives) (need : ℕ) (each : Knowledge) (numbers : Result (ℕ × List ℕ) Refusal) → Result Keeper Refusal → Type 0
Starts ds need each numbers r = MatchResult r (λ k. Started ds need each numbers k) (λ e. (e ≡ NoMemory) ⊎ (numbers ≡ Err e))

-- An object's state that was handed back stands in the table; what is known of every other object, and its bar, stand as they stood.
pub record Stands (before after : Keeper) (o : ℕ) (s : State) : Type 0 where
  pub there : state_at after o ≡ s
  pub others : (p : ℕ) → (p ≢ o) → ((state_at after p).known ≡ (state_at before p).known) × ((state_at after p).bar ≡ (state_at before p).bar)

abbrev pub TableStands : Type 0
TableStands = (before after : Keeper) (o : ℕ) (s : State) → o < objects → Accepted before after o s → Stands before after o s

-- What a step leaves of the table while its effects are done: every other object's state.
abbrev pub OthersStand : Type 0
OthersStand = (before after : Keeper) (o p : ℕ) → (p ≢ o) → Lent before after o → state_at after p ≡ state_at before p

pub record Table : Type 0 where
  pub stands : TableStands
  pub others : OthersStand
