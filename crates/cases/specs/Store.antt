-- The store that the cases speak of: object 0 on three drives, of which two give it back, by the pieces and the slots that the code works by.
-- Assumes nothing.
use Rattle.std.specs.Prelude.{ℕ, false, cond, List, [], replicate, None, ◌==◌}
use Rattle.keeper.specs.Real.{WorkOut}
use Rattle.recovery.specs.Disk.{Site}
use Rattle.recovery.specs.Events.{first_state}
use Rattle.recovery.specs.Real.{real_site}
use Rattle.recovery.specs.World.{World}

-- Three drives, two of which give the object back, with a function that works it out.
abbrev pub site : WorkOut → Site
site f = real_site 3 2 0 f

-- A slot with nothing in it. Its first bytes are enough here: no record of the cases is longer.
abbrev pub zeros : List ℕ
zeros = replicate 32 0

-- The slots of a drive of which only the first two have something in them.
abbrev pub slots_with : (first second : List ℕ) → ℕ → List ℕ
slots_with first second k = cond (k == 0) first (cond (k == 1) second zeros)

-- Before the first step: nothing in any slot, and no file.
abbrev pub at_first : World
at_first =
    record {
      disk = record { bytes = λ d k. zeros; once = λ d k. []; out = λ d. false; number = 1; bar = 0 };
      state = first_state;
      past = record { content = λ v. None; begun = []; last = 0 };
    }
