-- What a refusal to work polynomials out is called for pieces.
-- Assumes nothing.
use Rattle.elimination.specs.declared.Unsolved.{Unsolved}
use Rattle.elimination.specs.declared.Unsolved.TheVariants as no
use Rattle.pieces.specs.declared.errors.PieceError.{PieceError}
use Rattle.pieces.specs.declared.errors.PieceError.TheVariants.{TooFewPieces, DifferentLengths, SameDrive, NoMemory}

abbrev pub unsolved : Unsolved → PieceError
unsolved no.NoPoints = TooFewPieces
unsolved no.Uneven = DifferentLengths
unsolved no.SamePoint = SameDrive
unsolved no.NoMemory = NoMemory
