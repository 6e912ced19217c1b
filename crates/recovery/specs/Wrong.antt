-- What would go wrong with a keeper that did one thing otherwise, each with a run in which the world does nothing that it must not do.
-- Assumes nothing.
use Rattle.std.specs.Prelude.{◌≡◌, ℕ, ◌-◌, not, List, [], ◌∷◌, ◌++◌, Some, None, ◌==◌}
use Rattle.keeper.specs.Object.{unsure, writing, State, Outcome, Reply, has as told, none as nothing, found}
use Rattle.keeper.specs.Readings.{clears}
use Rattle.keeper.specs.Steps.{Found, highest, reserve, writing_on, settling_on}
use Rattle.recovery.specs.Disk.{Site, readings_of, how_many}
use Rattle.recovery.specs.World.{World, begin, write, finish, read, settle, setup, outcome_of, weak, Bearable}
use Rattle.recovery.specs.Events.{Event, step, stop, goes_out, returns, after, May, carried_out}
use Rattle.recovery.specs.Example.{copies, copies_on, start}

-- What happens: an event as it should be; a drive that comes back as it was; a step with another outcome than the keeper's; or a coming up with another
-- state.
pub data Move : Type 0 where
  does : Event → Move
  comes_back : (drive : ℕ) → Move
  instead : (World → Outcome) → Move
  wakes : (World → State) → Move

abbrev pub moved : Site → Move → World → World
moved S (does e) w = after S e w
moved S (comes_back d) w = after S (returns d (λ k. w.disk.bytes d k)) w
moved S (instead f) w = carried_out S w.state.known (f w) w
moved S (wakes f) w = record { disk = w.disk; state = f w; past = w.past }

unfoldable pub moves : Site → List Move → World → World
moves S [] w = w
moves S (m ∷ more) w = moves S more (moved S m w)

-- The world does nothing that it must not do.
abbrev pub Fair : Site → Move → World → Type 0
Fair S (does e) w = May S e w
Fair S (comes_back d) w = Bearable S (moved S (comes_back d) w)
Fair S (instead f) w = Unit {0}
Fair S (wakes f) w = Unit {0}

unfoldable pub AllFair : Site → List Move → World → Type 0
AllFair S [] w = Unit {0}
AllFair S (m ∷ more) w = Fair S m w × AllFair S more (moved S m w)

-- A read answers one thing, and later, though nothing was begun in between, another.
pub record Betrays (S : Site) (first second : List Move) (early late : Reply) : Type 0 where
  pub fair : AllFair S first start
  pub fair_later : AllFair S second (moves S first start)
  pub before : (outcome_of S (moves S first start) read).reply ≡ early
  pub after : (outcome_of S (moves S second (moves S first start)) read).reply ≡ late

-- Four drives, of which two are needed; the content 7 is put as version 1. Version 2, with the content 8, is begun and written to drives 2 and 3, which then
-- go out.
abbrev pub four : Site
four = copies_on 4 2

abbrev pub everywhere : List Move
everywhere = does (step (write 0)) ∷ does (step (write 1)) ∷ does (step (write 2)) ∷ does (step (write 3)) ∷ does (step finish) ∷ []

abbrev pub away : List Move
away = does (step (write 2)) ∷ does (step (write 3)) ∷ does (goes_out 2) ∷ does (goes_out 3) ∷ []

abbrev pub broken : List Move
broken = does (step (begin (7 ∷ []))) ∷ (everywhere ++ (does (step (begin (8 ∷ []))) ∷ away))

abbrev pub back : List Move
back = comes_back 2 ∷ comes_back 3 ∷ []

-- Settling under the number that was found. After the stop version 1 is found and finished anew as version 1. When drives 2 and 3 come back, version 2 isn't
-- below the bar, and what nobody was told of counts.
abbrev pub under_found : Site → State → Found → Outcome
under_found S s None = settling_on s [] None
under_found S s (Some f) =
    record { reply = found f.0 f.0; acts = []; state = record { known = writing f.0 f.0 f.1; bar = s.bar; next = s.next; number = s.number } }

abbrev pub best_above : Site → ℕ → World → Found
best_above S bar w = highest S.codec (setup S w.disk) bar (readings_of S w.disk) None (readings_of S w.disk)

abbrev pub SameNumber : Type 0
SameNumber =
    Betrays four (broken ++ (does stop ∷ instead (λ w. under_found four w.state (best_above four w.state.bar w)) ∷ does (step finish) ∷ []))
    (back ++ (does stop ∷ does (step settle) ∷ everywhere)) (told 1 (7 ∷ [])) (told 1025 (8 ∷ []))

-- Taking a version below the bar. Version 1 was begun and written to drives 2 and 3, which went out; settling found nothing, and that was told. When they
-- come back, the writing that was given up counts.
abbrev pub BelowBar : Type 0
BelowBar =
    Betrays four (does (step (begin (7 ∷ []))) ∷ (away ++ (does stop ∷ does (step settle) ∷ [])))
    (back ++ (does stop ∷ instead (λ w. settling_on w.state (readings_of four w.disk) (best_above four 0 w)) ∷ everywhere)) nothing (told 2049 (7 ∷ []))

-- Coming up with the number that was last used. Settling writes version 1 anew, as 2; drives 2 and 3 come back with another version 2, and pieces of two
-- writings are put together.
abbrev pub last_used : World → State
last_used w = record { known = unsure; bar = w.disk.bar; next = w.state.next - 1; number = w.disk.number }

abbrev pub NumberAgain : Type 0
NumberAgain =
    Betrays four (broken ++ (wakes last_used ∷ does (step settle) ∷ does (step (write 0)) ∷ does (step (write 1)) ∷ does (step finish) ∷ []))
    (back ++ (does (goes_out 0) ∷ does (goes_out 1) ∷ [])) (told 2 (7 ∷ [])) (told 2 (8 ∷ []))

-- Dropping the bar's pieces when another version is found: before the new version is anywhere, all drives are weak by the keeper's own step.
abbrev pub dropping_bar : Site → World → Found → Outcome
dropping_bar S w None = settling_on w.state [] None
dropping_bar S w (Some f) =
    record {
      reply = found f.0 w.state.next;
      acts = reserve w.state ++ clears (λ r. not (r.version == f.0)) (readings_of S w.disk);
      state = writing_on w.state f.0 f.1;
    }

abbrev pub half_written : List Move
half_written =
    does (step (begin (7 ∷ []))) ∷ does (step (write 0)) ∷ does (step (write 1)) ∷ does (step (write 2)) ∷ does (step finish) ∷ does (step (begin (8 ∷ []))) ∷
    does (step (write 0)) ∷ does (step (write 1)) ∷ does stop ∷ []

abbrev pub weak_at : Site → World → ℕ
weak_at S w = how_many S.drives (weak S w.disk w.past.last)

pub record NoBar : Type 0 where
  pub fair : AllFair copies half_written start
  pub before : weak_at copies (moves copies half_written start) ≡ 0
  pub after : weak_at copies (moves copies (half_written ++ (instead (λ w. dropping_bar copies w (best_above copies w.state.bar w)) ∷ [])) start) ≡ 3

pub record WrongTurns : Type 0 where
  pub same_number : SameNumber
  pub below_bar : BelowBar
  pub number_again : NumberAgain
  pub no_bar : NoBar
