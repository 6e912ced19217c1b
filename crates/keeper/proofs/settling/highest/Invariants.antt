use Rattle.std.proofs.Common.{◌≡◌, ℕ, drop, None}
use Rattle.keeper.specs.Found.{found_of}
use Rattle.keeper.specs.Object.{Setup}
use Rattle.keeper.specs.Real.{WorkOut, WorksOut, codec_of}
use Rattle.keeper.specs.Shown.{readings_of}
use Rattle.keeper.specs.Steps.{highest}
use Rattle.keeper.proofs.settling.highest.Given as goal

-- What was found so far, and then what is left to look at, decide.
abbrev pub invariant-loop-entry : goal.invariant-loop-entry
invariant-loop-entry l =
    (o : ℕ) (f : WorkOut) (u : Setup) → WorksOut l.codec.need f → u.need ≡ l.codec.need →
    highest (codec_of l.codec.need o f) u l.bar (readings_of l.view.entries.now) (found_of l.best) (readings_of (drop l.entry-index l.view.entries.now))
    ≡ highest (codec_of l.codec.need o f) u l.bar (readings_of l.view.entries.now) None (readings_of l.view.entries.now)
