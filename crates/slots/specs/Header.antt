-- What the code's reading of a record's first bytes says.
-- Assumes nothing.
use Rattle.std.specs.Prelude.{◌≡◌, ℕ, ◌<◌, ◌≤◌, ◌⊎◌, List, length, ◌≢◌, slice_index, slice_index_or}
use Rattle.slots.specs.Slot.{version_in, length_in}
use Rattle.slots.specs.declared.slot.Header.{Header}

-- The bytes are too few, or begin with something else than 87.
abbrev pub NoHeader : List ℕ → Type 0
NoHeader bytes = (length bytes < 15) ⊎ (slice_index bytes 0 ≢ 87)

-- They begin with 87, and name this object, drive, version and length.
pub record Names (bytes : List ℕ) (h : Header) : Type 0 where
  pub enough : 15 ≤ length bytes
  pub kind : slice_index_or bytes 0 0 ≡ 87
  pub object : h.owner.object ≡ slice_index bytes 1
  pub drive : h.owner.drive ≡ slice_index bytes 2
  pub version : h.version ≡ version_in bytes
  pub len : h.len ≡ length_in bytes
