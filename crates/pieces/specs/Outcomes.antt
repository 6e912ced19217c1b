-- What comes of working an object out of pieces.
-- Assumes nothing.
use Rattle.std.specs.Prelude.{◌≡◌, ℕ, ◌*◌, ◌<◌, ◌≤◌, ◌⊎◌, List, length, take, drop, vec_items, Result, Vec, MatchResult}
use mathlib.Core.List.{Memᴰ}
use Rattle.std.specs.List.{AllByRecursion}
use Rattle.std.specs.declared.alloc.Global.{Global}
use Rattle.elimination.specs.Polynomial.{Bytes, Distinct}
use Rattle.pieces.specs.Given.{IsDrive, Worked, Long, Filled, length_in, drives}
use Rattle.pieces.specs.Refusals.{Made, NotMade, NotWorked}
use Rattle.pieces.specs.Rows.{piece_of, values}
use Rattle.pieces.specs.declared.errors.PieceError.{PieceError}
use Rattle.pieces.specs.declared.errors.PieceError.TheVariants.{NoMemory}
use Rattle.pieces.specs.declared.working.Piece.{Piece}

-- An object is read off rows: those after its length, as many as that says.
pub record Read (need : ℕ) (flat object : List ℕ) : Type 0 where
  pub long : Long need flat
  pub filled : Filled flat
  pub object_is : object ≡ take (length_in flat) (drop 4 flat)

-- The answer is the object with these pieces, or the case of the error that holds. And if there is such an object, then
-- the answer is that object and no other, and nothing but want of memory stops it.
pub record Outcome (need : ℕ) (ps : List Piece) (r : Result (Vec ℕ Global) PieceError) : Type 0 where
  pub told : MatchResult r (λ v. Worked need ps (vec_items v)) (NotWorked need ps)
  pub found : (object : List ℕ) → Worked need ps object → MatchResult r (λ v. vec_items v ≡ object) (λ e. e ≡ NoMemory)

-- A drive's piece made anew out of pieces of other drives: it is the piece of the object that these are of. And if there
-- is such an object, nothing but want of memory stops it for a drive that may be.
pub record Remade (need drive : ℕ) (ps : List Piece) (r : Result (Vec ℕ Global) PieceError) : Type 0 where
  pub told :
      MatchResult r (λ v. (object : List ℕ) × Worked need ps object × Made need drive object (vec_items v))
      (λ e. NotWorked need ps e ⊎ ((object : List ℕ) × Worked need ps object × NotMade need drive object e))
  pub found : (object : List ℕ) → Worked need ps object → IsDrive drive → MatchResult r (λ v. vec_items v ≡ piece_of need drive object) (λ e. e ≡ NoMemory)

-- Pieces that were made of one object for as many different drives as are needed give it back: `Worked` holds of them.
abbrev pub MadeWork : Type 0
MadeWork =
    (need : ℕ) (ps : List Piece) (object : List ℕ) → 0 < need → length ps ≡ need → Distinct (drives ps) → Bytes object →
    AllByRecursion (λ p. Made need p.drive object (vec_items p.bytes)) ps → Worked need ps object

-- Only one object has these pieces.
abbrev pub OnlyOne : Type 0
OnlyOne = (need : ℕ) (ps : List Piece) (a b : List ℕ) → Worked need ps a → Worked need ps b → a ≡ b

-- Rows of `need` bytes are determined by their values at as many different points.
abbrev pub RowsDetermined : Type 0
RowsDetermined =
    (need rows : ℕ) (xs f g : List ℕ) → Bytes f → Bytes g → Bytes xs → Distinct xs → need ≤ length xs →
    length f ≡ rows * need → length g ≡ rows * need →
    ((x : ℕ) → Memᴰ x xs → values need rows x f ≡ values need rows x g) → f ≡ g
