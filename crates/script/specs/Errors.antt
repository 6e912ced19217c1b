-- What a reader that may find no memory answers. Assumes nothing.
use Rattle.std.specs.Prelude.{◌≡◌, ◌⊎◌, Ok, Err, Result}
use Rattle.script.specs.declared.error.LineError.{LineError}
use Rattle.script.specs.declared.error.LineError.TheVariants.{NoMemory}

-- `r` is the answer `m`, seen by `see`; or want of memory, which says nothing of the line, where `Asks` says that memory is asked for.
abbrev pub Gives : {A B : Type 0} → Type 0 → (A → B) → Result B LineError → Result A LineError → Type 0
Gives Asks see m (Ok a) = m ≡ Ok (see a)
Gives Asks see m (Err e) = (m ≡ Err e) ⊎ ((e ≡ NoMemory) × Asks)
