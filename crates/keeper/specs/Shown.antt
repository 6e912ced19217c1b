-- What the code's values stand for: the same with lists where the code has a Vec.
-- Assumes nothing.
use Rattle.std.specs.Prelude.{◌≡◌, ℕ, Bool, true, false, ◌⊎◌, List, map, length, Ok, Err, vec_items, Result, MatchResult, nat_lt, slice_index_or}
use Rattle.keeper.specs.declared.refusal.Refusal.{Refusal}
use Rattle.keeper.specs.declared.refusal.Refusal.TheVariants.{TooLong, NoMemory}
use Rattle.keeper.specs.declared.writing.Content.{Content}
use Rattle.keeper.specs.declared.plan.Plan.{Plan}
use Rattle.keeper.specs.declared.object.Known.{Known}
use Rattle.keeper.specs.declared.object.Known.TheVariants.{Unsure, Counts, Writing}
use Rattle.keeper.specs.declared.object.Object.{Object}
use Rattle.keeper.specs.declared.object.Entry.{Entry}
use Rattle.keeper.specs.declared.object.Effect.{Effect}
use Rattle.keeper.specs.declared.object.Effect.TheVariants.{Write, Clear, Replace}
use Rattle.keeper.specs.declared.object.Answer.{Answer}
use Rattle.keeper.specs.declared.object.Answer.TheVariants.{Done, Version, Has, Nothing, Removed, Mended, Found, Unknown}
use Rattle.keeper.specs.declared.object.Step.{Step}
use Rattle.keeper.specs.Object.{Knowledge, unsure, counts, writing, Reading, Act, write_slot, clear_slot, replace_file, Reply, refused, done, is_version, has, none, removed, mended, found, unknown, State, Outcome, Setup, refuse}
use Rattle.keeper.specs.Steps.{longest}

abbrev pub content_of : Content → List ℕ
content_of c = vec_items c.bytes

abbrev pub known_of : Known → Knowledge
known_of Unsure = unsure
known_of (Counts v) = counts v
known_of (Writing w) = writing w.from w.to (content_of w.content)

abbrev pub reading_of : Entry → Reading
reading_of e = record { drive = e.drive; place = e.place; version = e.version; piece = vec_items e.piece }

abbrev pub readings_of : List Entry → List Reading
readings_of es = map reading_of es

abbrev pub act_of : Effect → Act
act_of (Write d k bytes) = write_slot d k (vec_items bytes)
act_of (Clear d k) = clear_slot d k
act_of (Replace n b) = replace_file n b

abbrev pub reply_of : Answer → Reply
reply_of Done = done
reply_of (Version v) = is_version v
reply_of (Has v bytes) = has v (vec_items bytes)
reply_of Nothing = none
reply_of (Removed n) = removed n
reply_of (Mended n) = mended n
reply_of (Found v w) = found v w
reply_of Unknown = unknown

abbrev pub told : Result Answer Refusal → Reply
told (Ok a) = reply_of a
told (Err e) = refused e

abbrev pub state_of : Object → State
state_of o = record { known = known_of o.known; bar = o.bar; next = o.numbers.next; number = o.numbers.file }

abbrev pub outcome_of : Step → Outcome
outcome_of s = record { reply = told s.answer; acts = map act_of (vec_items s.effects); state = state_of s.object }

-- What a step comes to that was planned, or refused; and one that leaves the object's state.
abbrev pub planned_outcome : State → Result Step Refusal → Outcome
planned_outcome s (Ok step) = outcome_of step
planned_outcome s (Err e) = refuse s e

abbrev pub plan_outcome : State → Result Plan Refusal → Outcome
plan_outcome s (Ok p) = record { reply = reply_of p.answer; acts = map act_of (vec_items p.effects); state = s }
plan_outcome s (Err e) = refuse s e

-- The drives, by which of them are in: there are as many as there are flags.
abbrev pub setup_of : ℕ → List Bool → Setup
setup_of need present = record { drives = length present; need = need; is_in = λ d. slice_index_or present d false }

-- What comes of a step is what its definition says, or memory was wanting, and nothing changes.
abbrev pub Comes : Outcome → State → Outcome → Type 0
Comes outcome before wanted = (outcome ≡ wanted) ⊎ (outcome ≡ refuse before NoMemory)

abbrev pub Gives : Step → State → Outcome → Type 0
Gives step before wanted = Comes (outcome_of step) before wanted

-- Bytes are an object's content where they are few enough.
abbrev pub Fitting : List ℕ → Result Content Refusal → Type 0
Fitting bytes r =
    MatchResult r (λ c. (nat_lt longest (length bytes) ≡ false) × (content_of c ≡ bytes)) (λ e. (nat_lt longest (length bytes) ≡ true) × (e ≡ TooLong))
