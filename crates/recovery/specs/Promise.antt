-- What is promised of an object through every run: it is safe, nothing older comes back, versions are never used twice, and the keeper's own steps never
-- weaken a drive.
-- Assumes nothing: each promise is for every codec and format that keep their laws.
use Rattle.std.specs.Prelude.{◌≡◌, ℕ, ◌<◌, ◌≤◌, false, not, ◌&&◌, ◌⊎◌, List, [], map, length, take, Some, None}
use mathlib.Core.List.{Memᴰ}
use Rattle.keeper.specs.Object.{counts, Reading, Codec, Setup, has as told, is_version as numbered}
use Rattle.keeper.specs.Readings.{pieces_of, given, content_of}
use Rattle.keeper.specs.Steps.{highest}
use Rattle.recovery.specs.Disk.{Site, slot_at, readings_of, has, how_many, OnceBegun}
use Rattle.recovery.specs.Laws.{Laws, Distinct}
use Rattle.recovery.specs.World.{Past, World, LastFinished, Backed, begin, finish, read, outcome_of, weak}
use Rattle.recovery.specs.Events.{Event, step, cut_short, stop, breaks_off, forgets, others, failing, goes_out, returns, stepped, after, May, Run}

-- Any readings of the version last finished, on different drives and as many as are needed, work out to exactly the content that it was begun with, or from
-- which it was settled.
pub record Recovers (S : Site) (w : World) : Type 0 where
  pub content : List ℕ
  pub finished : w.past.content w.past.last ≡ Some content
  pub any : (rs : List Reading) → ((r : Reading) → Memᴰ r rs → Memᴰ r (readings_of S w.disk) × (r.version ≡ w.past.last)) →
      Distinct (map (λ r. r.drive) rs) → length rs ≡ S.need → S.codec.work_out (map given rs) ≡ Some content

-- A piece is of one version, and the right one: the piece of that version's content for its drive.
pub record OneVersion (S : Site) (w : World) (v : ℕ) (r : Reading) : Type 0 where
  pub version : r.version ≡ v
  pub content : List ℕ
  pub used : w.past.content v ≡ Some content
  pub piece : r.piece ≡ S.codec.piece_of r.drive content

-- A version that is used is below the next one and below the number in the file.
pub record BelowNext (w : World) (v : ℕ) : Type 0 where
  pub next : v < w.state.next
  pub file : v < w.disk.number

-- What holds after every run.
pub record Safe (S : Site) (w : World) : Type 0 where
  -- of the version last finished enough drives that are in have a piece, and any of them, as many as are needed, give it back
  pub enough : 1 ≤ w.past.last → S.need ≤ how_many S.drives (λ d. not (w.disk.out d) && has S w.disk d w.past.last)
  pub recovers : 1 ≤ w.past.last → Recovers S w
  -- an object that counts a version counts the one last finished; what a read answers is its content, and there is an answer
  pub counted : (v : ℕ) → w.state.known ≡ counts v → v ≡ w.past.last
  pub answered : (v : ℕ) (c : List ℕ) → (outcome_of S w read).reply ≡ told v c → (v ≡ w.past.last) × LastFinished w.past c
  pub answers : (v : ℕ) → w.state.known ≡ counts v → 1 ≤ v → (c : List ℕ) × ((outcome_of S w read).reply ≡ told v c)
  -- the history is what callers were told: a begin that answers a version makes that version's content the bytes given, and a finish that answers one
  -- makes it the one last finished
  pub begins : (v : ℕ) (c : List ℕ) → (outcome_of S w (begin c)).reply ≡ numbered v → (v ≡ w.state.next) × ((stepped S (begin c) w).past.content v ≡ Some c)
  pub finishes : (v : ℕ) → (outcome_of S w finish).reply ≡ numbered v → (stepped S finish w).past.last ≡ v
  -- all pieces that go into one working out are of one version
  pub one_version : (v : ℕ) (r : Reading) → Memᴰ r (take S.need (pieces_of v (readings_of S w.disk))) → OneVersion S w v r
  -- the next version's number, and the file's, are above every number used
  pub unused : (v : ℕ) (c : List ℕ) → w.past.content v ≡ Some c → BelowNext w v
  -- every place reads as nothing or as something whose writing was once begun there, so a drive that comes back as it was is a drive that comes back
  pub begun : (d k : ℕ) → OnceBegun (w.disk.once d k) (slot_at S w.disk d k)
  -- where there is no file, there is nothing on the drives: coming up can't take a lost file for a first start
  pub no_file : w.disk.number ≡ 1 → readings_of S w.disk ≡ []

abbrev pub Safety : Type 0
Safety = (S : Site) → Laws S → (w : World) → Run S w → Safe S w

-- What an event makes the version last finished has the content last finished before, or one whose writing had been begun since; nothing older ever comes
-- back.
pub record NewLast (P P' : Past) : Type 0 where
  pub content : List ℕ
  pub finished : P'.content P'.last ≡ Some content
  pub backed : Backed P content

abbrev pub NothingOlder : Past → Past → Type 0
NothingOlder P P' = (P'.last ≡ P.last) ⊎ NewLast P P'

-- A version's content never changes; a version that gets a content is the next one, and is below the next one from then on; and numbers only go up.
pub record Fresh (w w' : World) : Type 0 where
  pub kept : (v : ℕ) (c : List ℕ) → w.past.content v ≡ Some c → w'.past.content v ≡ Some c
  pub new : (v : ℕ) (c : List ℕ) → w'.past.content v ≡ Some c → (w.past.content v ≡ Some c) ⊎ ((v ≡ w.state.next) × (v < w'.state.next))
  pub next : w.state.next ≤ w'.state.next
  pub number : w.state.number ≤ w'.state.number

-- The keeper's own events, and other objects'.
abbrev pub Own : Event → Type 0
Own (step c) = Unit {0}
Own (cut_short c n left) = Unit {0}
Own stop = Unit {0}
Own (breaks_off c n left) = Unit {0}
Own forgets = Unit {0}
Own (others next number in_file) = Unit {0}
Own (failing c n left d) = ⊥
Own (goes_out d) = ⊥
Own (returns d what) = ⊥

-- What every event does, after every run.
pub record Sequel (S : Site) (w : World) (e : Event) : Type 0 where
  pub older : NothingOlder w.past (after S e w).past
  pub fresh : Fresh w (after S e w)
  -- a step of the keeper, whole or cut, never makes a drive weak: the premise binds only the world
  pub unweakened : Own e → (d : ℕ) → d < S.drives → weak S w.disk w.past.last d ≡ false → weak S (after S e w).disk (after S e w).past.last d ≡ false

abbrev pub Onward : Type 0
Onward = (S : Site) → Laws S → (w : World) → Run S w → (e : Event) → May S e w → Sequel S w e

-- Settling's choice is the highest: what is found works out, and isn't 0 or below the bar; and of all versions above it that aren't below the bar none
-- works out. Where nothing is found, none does.
pub record IsHighest (C : Codec) (u : Setup) (bar : ℕ) (rs : List Reading) : Type 0 where
  pub found : (v : ℕ) (c : List ℕ) → highest C u bar rs None rs ≡ Some (v, c) → (1 ≤ v) × (bar ≤ v) × (content_of C u v rs ≡ Some c)
  pub above : (v : ℕ) (c : List ℕ) → highest C u bar rs None rs ≡ Some (v, c) → (x : ℕ) → v < x → bar ≤ x → content_of C u x rs ≡ None
  pub none : highest C u bar rs None rs ≡ None → (x : ℕ) → 1 ≤ x → bar ≤ x → content_of C u x rs ≡ None

abbrev pub TakesHighest : Type 0
TakesHighest = (C : Codec) (u : Setup) (bar : ℕ) (rs : List Reading) → 1 ≤ u.need → IsHighest C u bar rs
