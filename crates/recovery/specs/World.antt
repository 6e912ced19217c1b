-- The world of one object: what is outside the keeper, the keeper's state, and the history that the promises speak of.
-- Assumes nothing.
use Rattle.std.specs.Prelude.{◌≡◌, ℕ, ◌+◌, ◌≤◌, Bool, cond, not, ◌&&◌, ◌||◌, ◌⊎◌, List, [], ◌∷◌, Some, Option, ◌==◌}
use mathlib.Core.List.{Memᴰ}
use Rattle.keeper.specs.Object.{Knowledge, unsure, counts, writing, State, Outcome, Setup}
use Rattle.keeper.specs.Steps
use Rattle.recovery.specs.Disk.{Site, Disk, has, how_many, readings_of}

-- The history: the content of each version used, the contents whose writing was begun since a version was last finished (or since all before was given up
-- for lost), and the version last finished, 0 for none. A version is finished from the moment that the file with its bar is in place, told or not.
pub record Past : Type 0 where
  pub content : ℕ → Option (List ℕ)
  pub begun : List (List ℕ)
  pub last : ℕ

pub record World : Type 0 where
  pub disk : Disk
  pub state : State
  pub past : Past

-- A content is the one last finished, or its writing was begun since.
pub record LastFinished (P : Past) (c : List ℕ) : Type 0 where
  pub finished : 1 ≤ P.last
  pub content : P.content P.last ≡ Some c

abbrev pub Backed : Past → List ℕ → Type 0
Backed P c = LastFinished P c ⊎ Memᴰ c P.begun

-- What a step is asked to do.
pub data Call : Type 0 where
  begin : (content : List ℕ) → Call
  write : (drive : ℕ) → Call
  finish : Call
  read : Call
  tidy : (drive : ℕ) → Call
  sweep : (drive : ℕ) → Call
  mend : (drive : ℕ) → Call
  give_up : Call
  settle : Call

abbrev pub setup : Site → Disk → Setup
setup S D = record { drives = S.drives; need = S.need; is_in = λ d. not (D.out d) }

-- The keeper's step, over what is read of the drives that are in.
abbrev pub outcome : Site → Disk → State → Call → Outcome
outcome S D s (begin c) = Steps.begin s c
outcome S D s (write d) = Steps.write S.codec (setup S D) s d (readings_of S D)
outcome S D s finish = Steps.finish (setup S D) s (readings_of S D)
outcome S D s read = Steps.read S.codec (setup S D) s (readings_of S D)
outcome S D s (tidy d) = Steps.tidy (setup S D) s d (readings_of S D)
outcome S D s (sweep d) = Steps.sweep (setup S D) s d (readings_of S D)
outcome S D s (mend d) = Steps.mend S.codec (setup S D) s d (readings_of S D)
outcome S D s give_up = Steps.give_up s
outcome S D s settle = Steps.settle S.codec (setup S D) s (readings_of S D)

abbrev pub outcome_of : Site → World → Call → Outcome
outcome_of S w c = outcome S w.disk w.state c

-- A version is used for a content.
abbrev pub using' : ℕ → List ℕ → (ℕ → Option (List ℕ)) → ℕ → Option (List ℕ)
using' v c f x = cond (x == v) (Some c) (f x)

-- What a whole step adds to the history, by what was known of the object before and after it:
-- an object that counted is being written: the new version has the content, whose writing is begun;
-- an unsure one is being written: the new version has the content that was found, and nothing new is begun;
-- one that was being written counts: that version is the one last finished;
-- an unsure one counts: nothing was found, and what was begun is given up for lost.
abbrev pub noted : Knowledge → Knowledge → Past → Past
noted (counts v) (writing o w c) P = record { content = using' w c P.content; begun = c ∷ P.begun; last = P.last }
noted unsure (writing o w c) P = record { content = using' w c P.content; begun = P.begun; last = P.last }
noted (writing o w c) (counts v) P = record { content = P.content; begun = []; last = v }
noted unsure (counts v) P = record { content = P.content; begun = []; last = P.last }
noted unsure unsure P = P
noted (counts v) unsure P = P
noted (counts v) (counts w) P = P
noted (writing o w c) unsure P = P
noted (writing o w c) (writing o' w' c') P = P

-- A drive is weak for the object if it is out, or lacks a piece of the version last finished, if one was.
abbrev pub weak : Site → Disk → (last : ℕ) → ℕ → Bool
weak S D last d = D.out d || (not (last == 0) && not (has S D d last))

-- What the world must not do: more drives weak at a time than there are beyond those needed.
abbrev pub Bearable : Site → World → Type 0
Bearable S w = how_many S.drives (weak S w.disk w.past.last) + S.need ≤ S.drives
