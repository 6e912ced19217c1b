-- The codec and the format that the code works by keep the laws: records lie in slots as the code lays and reads them, and pieces are values of polynomials.
-- So all promises hold of the code's own steps.
-- Assumes nothing: what working out is, is a premise, `WorksOut`, which the crate `codec` meets.
use Rattle.std.specs.Prelude.{ℕ, ◌<◌, ◌≤◌, ◌++◌, length, drop}
use Rattle.slots.specs.Slot.{read_slot, cleared}
use Rattle.slots.specs.Slot.{Slot as Held, empty as vacant, holds as held}
use Rattle.keeper.specs.Real.{WorkOut, WorksOut, codec_of}
use Rattle.recovery.specs.Disk.{Slot, empty, holds, Format, Site}
use Rattle.recovery.specs.Laws.{Laws}
use Rattle.recovery.specs.Store.{Depot, Store, Runs, EachObject}

-- What a slot of the code reads as.
abbrev pub read_as : Held → Slot
read_as vacant = empty
read_as (held v p) = holds v p

-- A record goes over the front of a place, and zeros go over the whole record that is taken away.
abbrev pub slots_of : (object : ℕ) → Format
slots_of o =
    record { decode = λ d bytes. read_as (read_slot o d bytes); lay = λ bytes old. bytes ++ drop (length bytes) old; wipe = λ d old. cleared o d old }

abbrev pub real_site : (drives need object : ℕ) → WorkOut → Site
real_site n need o f = record { drives = n; need = need; codec = codec_of need o f; format = slots_of o }

-- The code's numbers: 1 to 32 drives, of which at least one is needed.
pub record Numbers (n need : ℕ) : Type 0 where
  pub some : 1 ≤ need
  pub enough : need ≤ n
  pub most : n ≤ 32

abbrev pub RealLaws : Type 0
RealLaws = (n need o : ℕ) (f : WorkOut) → Numbers n need → WorksOut need f → Laws (real_site n need o f)

-- The store of 256 objects that the code keeps: every run of it is safe, and can go on.
abbrev pub real_depot : (drives need : ℕ) → WorkOut → Depot
real_depot n need f = record { drives = n; need = need; objects = 256; codec = λ o. codec_of need o f; format = λ o. slots_of o }

abbrev pub RealSafety : Type 0
RealSafety =
    (n need : ℕ) (f : WorkOut) → Numbers n need → WorksOut need f → (s : Store) → Runs (real_depot n need f) s → (o : ℕ) → o < 256 → EachObject (real_depot n need f) s o

pub record Real : Type 0 where
  pub laws : RealLaws
  pub safety : RealSafety
