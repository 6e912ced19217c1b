-- Pieces that are given, the rows behind them, and what is worked out of them.
-- Assumes nothing.
use Rattle.std.specs.Prelude.{◌≡◌, ℕ, ◌+◌, ◌*◌, ◌<◌, ◌≤◌, List, [], ◌∷◌, map, length, drop, vec_items, slice_index}
use Rattle.std.specs.List.{AllByRecursion}
use Rattle.elimination.specs.Polynomial.{Bytes, Distinct}
use Rattle.pieces.specs.Rows.{MAX, LAST, values, piece_of, rows_for}
use Rattle.pieces.specs.declared.working.Piece.{Piece}

-- How many pieces may give an object back.
abbrev pub IsNeed : ℕ → Type 0
IsNeed need = (0 < need) × (need ≤ LAST)

-- Which number a drive may have.
abbrev pub IsDrive : ℕ → Type 0
IsDrive drive = drive ≤ LAST

-- The drives that the pieces are of, and the bytes of each.
abbrev pub drives : List Piece → List ℕ
drives ps = map (λ p. p.drive) ps

abbrev pub parts : List Piece → List (List ℕ)
parts ps = map (λ p. vec_items p.bytes) ps

-- The pieces that these drives have of an object.
abbrev pub pieces_of : (need : ℕ) → List ℕ → List ℕ → List (List ℕ)
pieces_of need ds object = map (λ d. piece_of need d object) ds

-- How many bytes the first of them has.
abbrev pub width : List (List ℕ) → ℕ
width [] = 0
width (p ∷ ps) = length p

-- There are as many pieces as are needed.
abbrev pub Enough : ℕ → List Piece → Type 0
Enough need ps = IsNeed need × (length ps ≡ need)

-- And each is of a drive that may be.
abbrev pub OnDrives : ℕ → List Piece → Type 0
OnDrives need ps = Enough need ps × AllByRecursion IsDrive (drives ps)

-- And they have one length.
abbrev pub OneLength : ℕ → List Piece → Type 0
OneLength need ps = OnDrives need ps × AllByRecursion (λ p. length p ≡ width (parts ps)) (parts ps)

-- And no two are of one drive: from such pieces the rows can be worked out.
abbrev pub Sound : ℕ → List Piece → Type 0
Sound need ps = OneLength need ps × Distinct (drives ps)

-- The rows behind the pieces: as many as a piece has bytes, with the pieces as their values.
pub record RowsOf (need : ℕ) (ps : List Piece) (flat : List ℕ) : Type 0 where
  pub bytes : Bytes flat
  pub long : length flat ≡ width (parts ps) * need
  pub same : parts ps ≡ map (λ d. values need (width (parts ps)) (d + 1) flat) (drives ps)

-- The object's length as the rows say it, 4 bytes, the high byte first. A byte that isn't there counts as 0.
abbrev pub length_in : List ℕ → ℕ
length_in flat = ((slice_index flat 0 * 256 + slice_index flat 1) * 256 + slice_index flat 2) * 256 + slice_index flat 3

-- The object's length may be, and there are as many rows as it asks.
abbrev pub Long : (need : ℕ) → List ℕ → Type 0
Long need flat = (length_in flat ≤ MAX) × (length flat ≡ rows_for need (length_in flat) * need)

-- All after the object's bytes are zeros.
abbrev pub IsZero : ℕ → Type 0
IsZero b = b ≡ 0

abbrev pub Filled : List ℕ → Type 0
Filled flat = AllByRecursion IsZero (drop (4 + length_in flat) flat)

-- The object is worked out of the pieces: they are its pieces on their drives.
pub record Worked (need : ℕ) (ps : List Piece) (object : List ℕ) : Type 0 where
  pub sound : Sound need ps
  pub bytes : Bytes object
  pub length_is : length object ≤ MAX
  pub pieces_are : parts ps ≡ pieces_of need (drives ps) object
