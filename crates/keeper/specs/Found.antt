-- What settling has found, in words of the code.
-- Assumes nothing.
use Rattle.std.specs.Prelude.{◌≡◌, ℕ, List, Some, None, Option}
use Rattle.keeper.specs.declared.found.Candidate.{Candidate}
use Rattle.keeper.specs.Object.{Setup, Reading}
use Rattle.keeper.specs.Shown.{content_of}
use Rattle.keeper.specs.Real.{WorkOut, WorksOut, codec_of}
use Rattle.keeper.specs.Steps.{Found, better, highest}

abbrev pub found_of : Option Candidate → Found
found_of None = None
found_of (Some c) = Some (c.version, content_of c.content)

-- The better of what was found and a version; and the highest of all, by the codec of the object.
abbrev pub Betters : (need bar : ℕ) → List Reading → Found → ℕ → Found → Type 0
Betters need bar rs best v after =
    (o : ℕ) (f : WorkOut) (u : Setup) → WorksOut need f → u.need ≡ need → after ≡ better (codec_of need o f) u bar rs best v

abbrev pub Highest : (need bar : ℕ) → List Reading → Found → Type 0
Highest need bar rs after =
    (o : ℕ) (f : WorkOut) (u : Setup) → WorksOut need f → u.need ≡ need → after ≡ highest (codec_of need o f) u bar rs None rs
