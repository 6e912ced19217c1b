-- Events in a row: the world after two lists of them, runs that are made of events that may happen, and what a drive comes back with.
-- Assumes nothing.
use Rattle.std.proofs.Common.{◌≡◌, ℕ, Bool, true, false, cond, T, eqb, List, [], ◌∷◌, ◌++◌, sym, refl, subst, lit≤, eqb→eq}
use Rattle.slots.specs.Slot.{fits, read_slot}
use Rattle.keeper.specs.Real.{WorkOut}
use Rattle.recovery.specs.Disk.{Site, how_many}
use Rattle.recovery.specs.World.{World}
use Rattle.recovery.specs.Events.{Event, May, after, Run, first, then}
use Rattle.recovery.specs.Example.{play}
use Rattle.cases.specs.Store.{site, zeros, slots_with, at_first}

pub after-++ : (S : Site) (es more : List Event) (w : World) → play S (es ++ more) w ≡ play S more (play S es w)
unfolding play
after-++ S [] more w = refl
after-++ S (e ∷ es) more w = after-++ S es more (after S e w)

-- Each event may happen, after those before it.
unfoldable pub Allowed : Site → List Event → World → Type 0
Allowed S [] w = Unit {0}
Allowed S (e ∷ es) w = May S e w × Allowed S es (after S e w)

pub goes_on : (S : Site) (es : List Event) (w : World) → Run S w → Allowed S es w → Run S (play S es w)
unfolding play Allowed
goes_on S [] w run may = run
goes_on S (e ∷ es) w run may = goes_on S es (after S e w) (then run e may.0) may.1

-- The first start is one.
pub starts : (f : WorkOut) → Run (site f) at_first
unfolding fits read_slot how_many
starts f =
    first
    (record {
      state = refl;
      number = refl;
      bar = refl;
      nothing = λ d k. refl;
      unwritten = λ d k. refl;
      unused = λ v. refl;
      unbegun = refl;
      unfinished = refl;
      bearable = lit≤ tt;
    })

-- What holds of both ways of a choice.
either_way : {X : Type 0} (P : X → Type 0) (b : Bool) (x y : X) → (T b → P x) → P y → P (cond b x y)
either_way P true x y px py = px tt
either_way P false x y px py = py

-- What holds of the two slots that have something in them, and of an empty one.
pub each_slot : (P : ℕ → List ℕ → Type 0) (x y : List ℕ) → P 0 x → P 1 y → ((k : ℕ) → P k zeros) → (k : ℕ) → P k (slots_with x y k)
each_slot P x y px py pz k =
    either_way (P k) (eqb k 0) x (cond (eqb k 1) y zeros) (λ t. subst (λ i. P i x) (sym (eqb→eq k 0 t)) px)
    (either_way (P k) (eqb k 1) y zeros (λ t. subst (λ i. P i y) (sym (eqb→eq k 1 t)) py) (pz k))
