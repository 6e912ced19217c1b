-- What a stop may leave of a slot that is being written or cleared, and the one thing that is trusted about it.
-- Assumes nothing: `Torn` is a premise that theorems about stops name, and not an axiom.
use Rattle.std.specs.Prelude.{◌≡◌, ℕ, ◌⊎◌, List, length, slice_index}
use mathlib.Core.List.{Memᴰ}
use Rattle.slots.specs.Slot.{Slot, empty, holds, read_slot}

-- `m` has at each place either the byte that was there or the byte that was to be there.
pub record Mixture (old new m : List ℕ) : Type 0 where
  pub as_old : length m ≡ length old
  pub as_new : length m ≡ length new
  pub each : (k : ℕ) → (slice_index m k ≡ slice_index old k) ⊎ (slice_index m k ≡ slice_index new k)

-- A reading is nothing, or one of the pieces, each with its version, whose writing was once begun in that place.
abbrev pub OnceBegun : List (ℕ × List ℕ) → Slot → Type 0
OnceBegun begun empty = Unit {0}
OnceBegun begun (holds v p) = Memᴰ (v, p) begun

-- TRUSTED, wherever a theorem takes it as a premise: what a torn slot `m` of an object and a drive reads as is nothing, or a piece whose writing was once
-- begun in that place.
-- It is needed since Adler's sum is no proof against mixtures: of the many mixtures of two records some may have a sum that fits, and nothing but
-- their small share speaks against meeting one.
-- The stronger wording, that a mixture reads as nothing unless it is the old or the new bytes, is false by a run, and not only by chance: settling
-- writes a content as version 1025 and is torn with one byte missing, so that the slot reads as nothing; after a stop the same content goes as 2049
-- into the same place and is torn right after that byte, which is the same in both records. The slot is then a mixture of bytes that read as nothing
-- and a record of 2049, and reads as a valid 1025. `TornTwice` (specs/Laws.antt) is that run, and is proved.
abbrev pub Torn : (o d : ℕ) → List (ℕ × List ℕ) → List ℕ → Type 0
Torn o d begun m = OnceBegun begun (read_slot o d m)
