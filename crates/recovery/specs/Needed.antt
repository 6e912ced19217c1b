-- What a step has to read of an object. Its definition goes by all pieces on the drives that are in; the same comes of the pieces on the drive that it is about, and of
-- those on the lowest drives, up to as many as are needed. So a step's cost is that of a few pieces.
-- Assumes nothing.
use Rattle.std.specs.Prelude.{◌≡◌, ℕ, ◌≤◌, true, false, not, ◌&&◌, ltb, ◌⊎◌, List, ◌++◌, length, filter, ◌==◌, nat_eq, nat_lt}
use Rattle.keeper.specs.Object.{Reading, State, counts}
use Rattle.keeper.specs.Readings.{holder, pieces_of}
use Rattle.keeper.specs.Steps
use Rattle.recovery.specs.Disk.{Site, Disk, readings_of}
use Rattle.recovery.specs.World.{setup}

-- The readings of one drive; and those of the drives below one, and of these but for one drive.
abbrev pub on_drive : ℕ → List Reading → List Reading
on_drive d rs = filter (λ r. nat_eq r.drive d) rs

abbrev pub lowest : ℕ → List Reading → List Reading
lowest m rs = filter (λ r. ltb r.drive m) rs

abbrev pub lowest_but : (m d : ℕ) → List Reading → List Reading
lowest_but m d rs = filter (λ r. nat_lt r.drive m && not (r.drive == d)) rs

-- As many pieces of the version as are needed are among the readings of the drives below m, or these are all drives.
abbrev pub Reaches : Site → (m v : ℕ) → List Reading → Type 0
Reaches S m v rs = (S.need ≤ length (pieces_of v (lowest m rs))) ⊎ (S.drives ≤ m)

pub record Suffices (S : Site) (D : Disk) (s : State) : Type 0 where
  -- writing, tidying and sweeping a drive go by that drive alone
  pub write : (d : ℕ) → Steps.write S.codec (setup S D) s d (on_drive d (readings_of S D)) ≡ Steps.write S.codec (setup S D) s d (readings_of S D)
  pub tidy : (d : ℕ) → Steps.tidy (setup S D) s d (on_drive d (readings_of S D)) ≡ Steps.tidy (setup S D) s d (readings_of S D)
  pub sweep : (d : ℕ) → Steps.sweep (setup S D) s d (on_drive d (readings_of S D)) ≡ Steps.sweep (setup S D) s d (readings_of S D)
  -- reading goes by the lowest drives; and by nothing where no version counts
  pub read : (v m : ℕ) → s.known ≡ counts v → Reaches S m v (readings_of S D) →
      Steps.read S.codec (setup S D) s (lowest m (readings_of S D)) ≡ Steps.read S.codec (setup S D) s (readings_of S D)
  pub unread : ((v : ℕ) → s.known ≡ counts v → 1 ≤ v → ⊥) → (rs : List Reading) → Steps.read S.codec (setup S D) s rs ≡ Steps.read S.codec (setup S D) s (readings_of S D)
  -- mending goes by the drive, if that has its piece or no version counts, and else by the drive and the lowest others
  pub leave : (d : ℕ) → ((v : ℕ) → s.known ≡ counts v → 1 ≤ v → holder d v (readings_of S D) ≡ true) →
      Steps.mend S.codec (setup S D) s d (on_drive d (readings_of S D)) ≡ Steps.mend S.codec (setup S D) s d (readings_of S D)
  pub mend : (v d m : ℕ) → s.known ≡ counts v → holder d v (readings_of S D) ≡ false → Reaches S m v (readings_of S D) →
      Steps.mend S.codec (setup S D) s d (on_drive d (readings_of S D) ++ lowest_but m d (readings_of S D)) ≡ Steps.mend S.codec (setup S D) s d (readings_of S D)

abbrev pub FewSuffice : Type 0
FewSuffice = (S : Site) (D : Disk) (s : State) → Suffices S D s
