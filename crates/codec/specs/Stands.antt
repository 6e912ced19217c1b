-- What the theorem of the whole comes to at the function that is given here: nothing of a codec is left to assume.
-- Assumes nothing.
use Rattle.std.specs.Prelude.{◌≡◌, ℕ, ◌<◌, true, List}
use Rattle.slots.specs.Layout.{record_of}
use Rattle.slots.specs.Slot.{has_room, written}
use Rattle.keeper.specs.Real.{WorkOut, WorksOut}
use Rattle.recovery.specs.Events.{Event, May, Run}
use Rattle.recovery.specs.Laws.{Laws}
use Rattle.recovery.specs.Promise.{Sequel}
use Rattle.recovery.specs.Real.{Numbers, real_site, real_depot, slots_of}
use Rattle.recovery.specs.Store.{Store, Runs, EachObject}
use Rattle.recovery.specs.World.{World}
use Rattle.codec.specs.WorkOut.{work_out_of}

pub record RealPromise : Type 0 where
  -- the laws hold of every object
  pub laws : (n need o : ℕ) → Numbers n need → Laws (real_site n need o (work_out_of need))
  -- after every run of the store every object is safe and can go on
  pub objects :
      (n need : ℕ) → Numbers n need → (s : Store) → Runs (real_depot n need (work_out_of need)) s → (o : ℕ) → o < 256 →
      EachObject (real_depot n need (work_out_of need)) s o
  -- and whatever event of an object comes next has its sequel, by whichever function contents are worked out
  pub sequel :
      (n need o : ℕ) (f : WorkOut) → Numbers n need → WorksOut need f → (w : World) → Run (real_site n need o f) w →
      (e : Event) → May (real_site n need o f) e w → Sequel (real_site n need o f) w e
  -- what the code leaves in a place that has room for a piece is what the theorem says: the piece's record over what was there
  pub laid : (o d v : ℕ) (p old : List ℕ) → has_room old p ≡ true → written o d v p old ≡ (slots_of o).lay (record_of o d v p) old
