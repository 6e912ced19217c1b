-- What holds after every run: every place has the right piece of a used version or nothing, and the state, the file and the history fit together.
use Rattle.std.proofs.Common.{◌≡◌, ℕ, ◌<◌, ◌≤◌, Bool, not, ◌⊎◌, List, Some, None, Option, subst}
use mathlib.Core.List.{Memᴰ}
use Rattle.keeper.specs.Object.{Knowledge, unsure, counts, writing, State, Reading}
use Rattle.keeper.specs.Readings.{content_of}
use Rattle.keeper.specs.Steps.{last_number, Found, highest}
use Rattle.recovery.specs.Disk.{holds, Site, Disk, slot_at, readings_of, OnceBegun}
use Rattle.recovery.specs.Laws.{Content}
use Rattle.recovery.specs.World.{Past, World, Backed, setup, Bearable}

-- A piece on a drive is right: its version is used, and it is the piece of that version's content.
pub record Right (S : Site) (content : ℕ → Option (List ℕ)) (d v : ℕ) (p : List ℕ) : Type 0 where
  pub whole : List ℕ
  pub used : content v ≡ Some whole
  pub piece : p ≡ S.codec.piece_of d whole

pub record Sound (S : Site) (content : ℕ → Option (List ℕ)) (D : Disk) : Type 0 where
  pub reads : (d k : ℕ) → OnceBegun (D.once d k) (slot_at S D d k)
  pub right : (d k v : ℕ) (p : List ℕ) → Memᴰ (v, p) (D.once d k) → Right S content d v p

-- A version that is used for a content.
pub record Used (P : Past) (s : State) (v : ℕ) (c : List ℕ) : Type 0 where
  pub content : Content c
  pub one : 1 ≤ v
  pub below : v < s.next
  pub small : v < last_number
  pub backed : s.bar ≤ v → Backed P c

pub record Writing (P : Past) (s : State) (w : ℕ) (c : List ℕ) : Type 0 where
  pub used : P.content w ≡ Some c
  pub above : s.bar < w
  pub highest : (v : ℕ) (x : List ℕ) → P.content v ≡ Some x → v ≤ w

abbrev pub Knowing : Past → State → Knowledge → Type 0
Knowing P s unsure = Unit {0}
Knowing P s (counts v) = v ≡ P.last
Knowing P s (writing o w c) = Writing P s w c

pub record LastIsBar (P : Past) (s : State) : Type 0 where
  pub bar : P.last ≡ s.bar
  pub content : List ℕ
  pub used : P.content P.last ≡ Some content

pub record Consistent (P : Past) (s : State) : Type 0 where
  pub used : (v : ℕ) (c : List ℕ) → P.content v ≡ Some c → Used P s v c
  pub known : Knowing P s s.known
  pub last : (P.last ≡ 0) ⊎ LastIsBar P s
  pub bar : s.bar < s.next
  pub numbers : s.next ≤ s.number

-- The file: its number isn't below this one, and this is the bar in it.
pub record Filed (m b : ℕ) (D : Disk) : Type 0 where
  pub number : m ≤ D.number
  pub bar : D.bar ≡ b

pub record Inv (S : Site) (w : World) : Type 0 where
  pub sound : Sound S w.past.content w.disk
  pub consistent : Consistent w.past w.state
  pub filed : Filed w.state.number w.state.bar w.disk
  pub bearable : Bearable S w

-- What is read in a world; which drives are in; what works out there; and what settling finds.
abbrev pub readings : Site → World → List Reading
readings S w = readings_of S w.disk

abbrev pub is_in : World → ℕ → Bool
is_in w d = not (w.disk.out d)

abbrev pub worked_out : Site → World → ℕ → Option (List ℕ)
worked_out S w v = content_of S.codec (setup S w.disk) v (readings S w)

abbrev pub best : Site → World → Found
best S w = highest S.codec (setup S w.disk) w.state.bar (readings S w) None (readings S w)

-- What a place reads as is right.
pub right_slot : {S : Site} {content : ℕ → Option (List ℕ)} {D : Disk} → Sound S content D → (d k v : ℕ) (p : List ℕ) → slot_at S D d k ≡ holds v p → Right S content d v p
right_slot {S} {content} {D} h d k v p e = h.right d k v p (subst (λ s. OnceBegun (D.once d k) s) e (h.reads d k))
