-- What is done to the drives and to the keeper's file, and what it means that all of a list of that was done, in its order.
-- Assumes nothing.
use Rattle.std.specs.Prelude.{◌≡◌, ℕ, List, [], ◌∷◌, map, slice_set}
use Rattle.keeper.specs.declared.object.Effect.{Effect}
use Rattle.table.specs.File.{file_of}
use Rattle.keeper.specs.Object.{Act, write_slot, clear_slot, replace_file}
use Rattle.keeper.specs.Shown.{act_of}

-- These bytes were written to the front of a place of an object on a drive; the record there was taken away; the keeper's file was replaced by these bytes.
pub data Deed : Type 0 where
  wrote : (object drive place : ℕ) (bytes : List ℕ) → Deed
  cleared : (object drive place : ℕ) → Deed
  replaced : (bytes : List ℕ) → Deed

-- What an act of a step on an object asks for outside, with these bars of all objects.
abbrev pub deed_of : (bars : List ℕ) (object : ℕ) → Act → Deed
deed_of bars o (write_slot d k bytes) = wrote o d k bytes
deed_of bars o (clear_slot d k) = cleared o d k
deed_of bars o (replace_file n b) = replaced (file_of n (slice_set bars o b))

abbrev pub deeds_of : (bars : List ℕ) (object : ℕ) → List Effect → List Deed
deeds_of bars o es = map (λ e. deed_of bars o (act_of e)) es

-- These deeds, each done to what the one before has left, lead from one state of the disks to another.
abbrev pub Leads : {S : Type 0} → (Deed → S → S → Type 0) → List Deed → S → S → Type 0
Leads R [] s t = s ≡ t
Leads {S} R (d ∷ ds) s t = (u : S) × (R d s u × Leads R ds u t)
