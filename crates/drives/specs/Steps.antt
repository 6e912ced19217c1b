-- A drive after a piece was written to it, and after pieces were taken away from it.
-- Assumes nothing.
use Rattle.std.specs.Prelude.{ℕ, zero, suc, cond, List, Some, None, Ok, Err, count_by, Option, Result}
use Rattle.slots.specs.Slot.{read_slot, has_room, written, cleared}
use Rattle.drives.specs.Place.{places, slot_at, with_slot, readings}
use Rattle.drives.specs.View.{place_for}
use Rattle.drives.specs.Rule.{names_slot}
use Rattle.drives.specs.declared.piece.Unwritten.{Unwritten}
use Rattle.drives.specs.declared.piece.Unwritten.TheVariants.{NoRoom, NoPlace}
use Rattle.drives.specs.declared.rule.Rule.{Rule}

-- The numbers of what a writing is refused for: there is no room for the piece; four other versions are there.
abbrev pub number_of : Unwritten → ℕ
number_of NoRoom = 1
number_of NoPlace = 5

-- The answer to a writing, once its place is known, and the drive after it.
abbrev pub answer_at : List ℕ → (o : ℕ) → List ℕ → Option ℕ → Result ℕ Unwritten
answer_at bytes o p None = Err NoPlace
answer_at bytes o p (Some k) = cond (has_room (slot_at bytes o k) p) (Ok k) (Err NoRoom)

abbrev pub written_at : List ℕ → (o d v : ℕ) → List ℕ → Option ℕ → List ℕ
written_at bytes o d v p None = bytes
written_at bytes o d v p (Some k) = cond (has_room (slot_at bytes o k) p) (with_slot bytes o k (written o d v p (slot_at bytes o k))) bytes

abbrev pub write_answer : List ℕ → (o d v : ℕ) → List ℕ → Result ℕ Unwritten
write_answer bytes o d v p = answer_at bytes o p (place_for v (readings bytes o d))

abbrev pub after_write : List ℕ → (o d v : ℕ) → List ℕ → List ℕ
after_write bytes o d v p = written_at bytes o d v p (place_for v (readings bytes o d))

-- The drive once what a rule names at one place, or at the lowest so many places, was taken away.
abbrev pub taken_at : List ℕ → (o d k : ℕ) → Rule → List ℕ
taken_at bytes o d k rule = cond (names_slot rule (read_slot o d (slot_at bytes o k))) (with_slot bytes o k (cleared o d (slot_at bytes o k))) bytes

unfoldable pub taken_below : (count : ℕ) → List ℕ → (o d : ℕ) → Rule → List ℕ
taken_below zero bytes o d rule = bytes
taken_below (suc k) bytes o d rule = taken_at (taken_below k bytes o d rule) o d k rule

abbrev pub after_taking : List ℕ → (o d : ℕ) → Rule → List ℕ
after_taking bytes o d rule = taken_below places bytes o d rule

-- How many places that is: of all readings, copies too, those that the rule names.
abbrev pub how_many_named : List ℕ → (o d : ℕ) → Rule → ℕ
how_many_named bytes o d rule = count_by (names_slot rule) (readings bytes o d)
