-- That the keeper can always go on: an unsure object can be settled, every object can be brought to count, and a lacking piece can be made anew, by the
-- keeper's own steps alone, whatever was broken off and whatever came back, as long as version numbers last.
-- Assumes nothing: it is for every codec and format that keep their laws.
use Rattle.std.specs.Prelude.{◌≡◌, ℕ, ◌<◌, ◌≤◌, true, false, ◌≢◌}
use Rattle.keeper.specs.Object.{unsure, counts}
use Rattle.keeper.specs.Steps.{last_number}
use Rattle.recovery.specs.Disk.{Site, has}
use Rattle.recovery.specs.Laws.{Laws}
use Rattle.recovery.specs.World.{World, Call, tidy, mend, settle}
use Rattle.recovery.specs.Events.{Given, stepped, Run}

-- A world that whole steps of the keeper lead to.
pub data BySteps (S : Site) (w : World) : World → Type 0 where
  here : BySteps S w w
  then : {w' : World} → BySteps S w w' → (c : Call) → Given c → BySteps S w (stepped S c w')

-- Such a world in which the object counts.
pub record Counting (S : Site) (w : World) : Type 0 where
  pub later : World
  pub steps : BySteps S w later
  pub version : ℕ
  pub counted : later.state.known ≡ counts version

pub record CanGoOn (S : Site) (w : World) : Type 0 where
  -- settling an unsure object isn't refused: afterwards it isn't unsure
  pub settles : w.state.known ≡ unsure → w.state.next < last_number → (stepped S settle w).state.known ≢ unsure
  -- the object can be brought to count
  pub counting : w.state.next < last_number → Counting S w
  -- tidying a drive that is in, and then mending it, gives it its piece of the version that counts
  pub mends : (v d : ℕ) → w.state.known ≡ counts v → 1 ≤ v → d < S.drives → w.disk.out d ≡ false → has S (stepped S (mend d) (stepped S (tidy d) w)).disk d v ≡ true

abbrev pub GoesOn : Type 0
GoesOn = (S : Site) → Laws S → (w : World) → Run S w → CanGoOn S w
