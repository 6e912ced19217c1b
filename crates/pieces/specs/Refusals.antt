-- When a piece is not made and an object not worked out, by each case of the error.
-- Assumes nothing.
use Rattle.std.specs.Prelude.{◌≡◌, ℕ, ◌*◌, ◌<◌, ◌≤◌, List, length, ◌≢◌}
use Rattle.std.specs.List.{AllByRecursion}
use Rattle.elimination.specs.Polynomial.{Distinct}
use Rattle.pieces.specs.Given.{IsNeed, IsDrive, drives, parts, width, Enough, OnDrives, OneLength, Sound, RowsOf, length_in, Long, Filled}
use Rattle.pieces.specs.Rows.{MAX, piece_of, rows_for}
use Rattle.pieces.specs.declared.errors.PieceError.{PieceError}
use Rattle.pieces.specs.declared.errors.PieceError.TheVariants.{NeedOutOfRange, DriveOutOfRange, ObjectTooLong, TooFewPieces, TooManyPieces, DifferentLengths, SameDrive, LengthTooLarge, WrongRowCount, NotZeroFilled, NoMemory}
use Rattle.pieces.specs.declared.working.Piece.{Piece}

-- Each case's number. Of the cases that hold, the lowest is told.
abbrev pub number : PieceError → ℕ
number NeedOutOfRange = 1
number TooFewPieces = 2
number TooManyPieces = 3
number DriveOutOfRange = 4
number ObjectTooLong = 5
number DifferentLengths = 6
number SameDrive = 7
number LengthTooLarge = 8
number WrongRowCount = 9
number NotZeroFilled = 10
number NoMemory = 11

-- A drive's piece of an object is made.
pub record Made (need drive : ℕ) (object piece : List ℕ) : Type 0 where
  pub need_is : IsNeed need
  pub drive_is : IsDrive drive
  pub length_is : length object ≤ MAX
  pub piece_is : piece ≡ piece_of need drive object

-- When it is not made. Each case says that those with a lower number don't hold.
abbrev pub NotMade : (need drive : ℕ) → List ℕ → PieceError → Type 0
NotMade need drive object NeedOutOfRange = IsNeed need → ⊥
NotMade need drive object DriveOutOfRange = IsNeed need × (IsDrive drive → ⊥)
NotMade need drive object ObjectTooLong = IsNeed need × IsDrive drive × (MAX < length object)
NotMade need drive object TooFewPieces = ⊥
NotMade need drive object TooManyPieces = ⊥
NotMade need drive object DifferentLengths = ⊥
NotMade need drive object SameDrive = ⊥
NotMade need drive object LengthTooLarge = ⊥
NotMade need drive object WrongRowCount = ⊥
NotMade need drive object NotZeroFilled = ⊥
NotMade need drive object NoMemory = IsNeed need × IsDrive drive × (length object ≤ MAX)

-- When no object can be read off rows.
abbrev pub NotRead : (need : ℕ) → List ℕ → PieceError → Type 0
NotRead need flat NeedOutOfRange = ⊥
NotRead need flat DriveOutOfRange = ⊥
NotRead need flat ObjectTooLong = ⊥
NotRead need flat TooFewPieces = ⊥
NotRead need flat TooManyPieces = ⊥
NotRead need flat DifferentLengths = ⊥
NotRead need flat SameDrive = ⊥
NotRead need flat LengthTooLarge = MAX < length_in flat
NotRead need flat WrongRowCount = (length_in flat ≤ MAX) × (length flat ≢ rows_for need (length_in flat) * need)
NotRead need flat NotZeroFilled = Long need flat × (Filled flat → ⊥)
NotRead need flat NoMemory = Long need flat × Filled flat

-- The rows behind the pieces are there, and no object can be read off them.
abbrev pub Unreadable : (need : ℕ) → List Piece → PieceError → Type 0
Unreadable need ps e = Sound need ps × (flat : List ℕ) × RowsOf need ps flat × NotRead need flat e

-- When an object is not worked out. Each case says that those with a lower number don't hold; memory can be wanting before the rows are there.
abbrev pub NotWorked : (need : ℕ) → List Piece → PieceError → Type 0
NotWorked need ps NeedOutOfRange = IsNeed need → ⊥
NotWorked need ps DriveOutOfRange = Enough need ps × (AllByRecursion IsDrive (drives ps) → ⊥)
NotWorked need ps ObjectTooLong = ⊥
NotWorked need ps TooFewPieces = IsNeed need × (length ps < need)
NotWorked need ps TooManyPieces = IsNeed need × (need < length ps)
NotWorked need ps DifferentLengths = OnDrives need ps × (AllByRecursion (λ p. length p ≡ width (parts ps)) (parts ps) → ⊥)
NotWorked need ps SameDrive = OneLength need ps × (Distinct (drives ps) → ⊥)
NotWorked need ps LengthTooLarge = Unreadable need ps LengthTooLarge
NotWorked need ps WrongRowCount = Unreadable need ps WrongRowCount
NotWorked need ps NotZeroFilled = Unreadable need ps NotZeroFilled
NotWorked need ps NoMemory = OneLength need ps
