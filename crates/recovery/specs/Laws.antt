-- What is asked of a codec and a format: the laws from which the promises follow. The real ones are one instance.
-- Assumes nothing: the laws are a premise of the theorems.
use Rattle.std.specs.Prelude.{◌≡◌, ℕ, ◌<◌, ◌≤◌, List, [], ◌∷◌, map, length, Some}
use mathlib.Core.List.{Memᴰ}
use Rattle.keeper.specs.Object.{Codec}
use Rattle.keeper.specs.Steps.{longest, last_number}
use Rattle.recovery.specs.Disk.{empty, holds, Site}

-- A content that an object can have: bytes, and not more than an object may have.
pub record Content (c : List ℕ) : Type 0 where
  pub bytes : (b : ℕ) → Memᴰ b c → b < 256
  pub short : length c ≤ longest

-- All different.
unfoldable pub Distinct : List ℕ → Type 0
Distinct [] = Unit {0}
Distinct (x ∷ xs) = (Memᴰ x xs → ⊥) × Distinct xs

-- The pieces of a content on these drives, as working out takes them.
abbrev pub pieces_on : Codec → List ℕ → List ℕ → List (ℕ × List ℕ)
pieces_on C c ds = map (λ d. (d, C.piece_of d c)) ds

pub record Laws (S : Site) : Type 0 where
  -- at least one piece is needed, and there are at least as many drives as pieces are needed
  pub some : 1 ≤ S.need
  pub enough : S.need ≤ S.drives
  -- what is read of a piece that was written is that piece
  pub written : (d v : ℕ) (c old : List ℕ) → d < S.drives → v < last_number → Content c → S.format.decode d (S.format.lay (S.codec.encode d v (S.codec.piece_of d c)) old) ≡ holds v (S.codec.piece_of d c)
  -- what was taken away reads as nothing
  pub wiped : (d : ℕ) (old : List ℕ) → d < S.drives → S.format.decode d (S.format.wipe d old) ≡ empty
  -- pieces of one content on different drives, as many as are needed, work out to it; of other pieces nothing is asked
  pub works : (c : List ℕ) (ds : List ℕ) → Content c → Distinct ds → ((d : ℕ) → Memᴰ d ds → d < S.drives) → length ds ≡ S.need → S.codec.work_out (pieces_on S.codec c ds) ≡ Some c
