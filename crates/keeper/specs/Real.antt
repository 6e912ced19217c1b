-- The codec that the code works by: records as they lie in slots, pieces as values of polynomials, and the one content that has given pieces.
-- Assumes nothing.
use Rattle.std.specs.Prelude.{◌≡◌, ℕ, ◌≤◌, List, map, length, Some, None, vec_items, Option}
use Rattle.std.specs.Option.{option_map}
use Rattle.std.specs.List.{AllByRecursion}
use Rattle.elimination.specs.Polynomial.{Bytes, Distinct}
use Rattle.pieces.specs.Rows.{MAX, LAST, piece_of}
use Rattle.pieces.specs.declared.working.Piece.{Piece}
use Rattle.slots.specs.Layout.{record_of}
use Rattle.keeper.specs.declared.object.Step.{Step}
use Rattle.keeper.specs.Object.{Codec, Setup, State, Outcome, Reading}
use Rattle.keeper.specs.Readings.{content_of}
use Rattle.keeper.specs.Shown.{content_of as bytes_in, outcome_of, Comes}
use Rattle.keeper.specs.declared.writing.Content.{Content}

-- The drives that pieces are of, and the pieces.
abbrev pub on_drives : List (ℕ × List ℕ) → List ℕ
on_drives ps = map (λ p. p.0) ps

abbrev pub parts : List (ℕ × List ℕ) → List (List ℕ)
parts ps = map (λ p. p.1) ps

-- A piece as the code hands it on.
abbrev pub piece_given : Piece → ℕ × List ℕ
piece_given p = (p.drive, vec_items p.bytes)

-- A content has these pieces: as many as are needed, of different drives, each the one that writing the content makes there.
pub record Fits (need : ℕ) (ps : List (ℕ × List ℕ)) (content : List ℕ) : Type 0 where
  pub many : length ps ≡ need
  pub drives : AllByRecursion (λ d. d ≤ LAST) (on_drives ps)
  pub distinct : Distinct (on_drives ps)
  pub bytes : Bytes content
  pub short : length content ≤ MAX
  pub pieces : parts ps ≡ map (λ d. piece_of need d content) (on_drives ps)

-- Working out gives the content that has the pieces, and nothing where none has them. There is one such function: `determined` says that two contents
-- with the same pieces are one.
abbrev pub WorkOut : Type 0
WorkOut = List (ℕ × List ℕ) → Option (List ℕ)

pub record WorksOut (need : ℕ) (work_out : WorkOut) : Type 0 where
  pub works : (ps : List (ℕ × List ℕ)) (c : List ℕ) → Fits need ps c → work_out ps ≡ Some c
  pub fails : (ps : List (ℕ × List ℕ)) → ((c : List ℕ) → Fits need ps c → ⊥) → work_out ps ≡ None

-- The codec of an object: its records lie in slots, and its pieces are values of polynomials.
abbrev pub codec_of : (need o : ℕ) → WorkOut → Codec
codec_of need o work_out = record { encode = λ d v p. record_of o d v p; piece_of = λ d c. piece_of need d c; work_out = work_out }

-- What was worked out of a version's pieces, in words of the code.
pub record Worked (need v : ℕ) (rs : List Reading) (result : Option Content) : Type 0 where
  pub content : (o : ℕ) (f : WorkOut) (u : Setup) → WorksOut need f → u.need ≡ need → content_of (codec_of need o f) u v rs ≡ option_map bytes_in result

-- What comes of a step is what its definition says, by the codec of its object.
abbrev pub ComesBy : (need o : ℕ) → Outcome → State → (Codec → Outcome) → Type 0
ComesBy need o outcome before wanted = (f : WorkOut) → WorksOut need f → Comes outcome before (wanted (codec_of need o f))

abbrev pub GivesBy : (need o : ℕ) → Step → State → (Codec → Outcome) → Type 0
GivesBy need o step before wanted = ComesBy need o (outcome_of step) before wanted
