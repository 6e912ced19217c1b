-- What is read of a drive after a writing and after a taking away.
use Rattle.std.proofs.Common.{◌≡◌, ℕ, ◌+◌, ◌<◌, true, cond, List, map, length, get_or, drop, set, Some, None, Ok, Option, sym, refl, ap, ◌∙◌, inl, inr, arith}
use Rattle.std.proofs.lemmas.List.{ext_get_or, get_or-map, get_or-set_same, get_or-set_other, length-map, length-set}
use Rattle.std.proofs.lemmas.Bool.Decides.{nat_tests}
use Rattle.std.proofs.lemmas.Bool.{cases_eq}
use Rattle.slots.specs.Layout.{around}
use Rattle.slots.specs.Slot.{Slot, empty, holds, read_slot, has_room, written}
use Rattle.slots.proofs.Standing.{reads_written, cleared_reads_empty}
use Rattle.slots.proofs.Writing.{room_parts, written_there, length_written}
use Rattle.drives.specs.Place.{slot_at, with_slot, readings}
use Rattle.drives.specs.Rule.{names_slot}
use Rattle.drives.specs.Steps.{answer_at, written_at, after_write, taken_below}
use Rattle.drives.specs.View.{place_for}
use Rattle.drives.specs.Laws.{WriteReads, TakingReads, OtherObjects, Rereading}
use Rattle.drives.specs.declared.rule.Rule.{Rule}
use Rattle.drives.proofs.Counting.{length_readings, get_or_readings}
use Rattle.drives.proofs.Placing.{place_below}
use Rattle.drives.proofs.Standing.{slot_stands, others_stand}
use Rattle.drives.proofs.Taking.{cleared_if, below_done, below_others}

-- What an answer `Ok` says.
record There (bytes p : List ℕ) (o d v k : ℕ) : Type 0 where
  place : Some k ≡ place_for v (readings bytes o d)
  room : has_room (slot_at bytes o k) p ≡ true

there_by : (bytes p : List ℕ) (o d v k : ℕ) (r : Option ℕ) → r ≡ place_for v (readings bytes o d) → answer_at bytes o p r ≡ Ok k → There bytes p o d v k
there_by bytes p o d v k None e a = cc
there_by bytes p o d v k (Some j) e a = record { place = grind (arith, nat_tests); room = grind (arith, nat_tests) }

-- The drive after it.
after_there : (bytes p : List ℕ) (o d v k : ℕ) → There bytes p o d v k → after_write bytes o d v p ≡ with_slot bytes o k (written o d v p (slot_at bytes o k))
after_there bytes p o d v k h = grind (arith, nat_tests)

-- What the written slot reads as.
reads_there : (bytes p : List ℕ) (o d v k : ℕ) → v < 18446744073709551616 → There bytes p o d v k → read_slot o d (written o d v p (slot_at bytes o k)) ≡ holds v p
reads_there bytes p o d v k small h =
    ap (read_slot o d) (written_there o d v p (slot_at bytes o k) h.room)
    ∙ reads_written o d v p (drop (around + length p) (slot_at bytes o k)) (omega arith) (room_parts (slot_at bytes o k) p h.room).0

pub write_reads : WriteReads
write_reads bytes p o d v k small answer =
    let h = there_by bytes p o d v k (place_for v (readings bytes o d)) refl answer in
    let below : k < 4 = place_below v k bytes o d h.place in
    let new = written o d v p (slot_at bytes o k) in
    let after = with_slot bytes o k new in
    let long = length_written o d v p (slot_at bytes o k) in
    let four = length_readings bytes o d in
    let lengths : length (readings after o d) ≡ length (set (readings bytes o d) k (holds v p)) =
    length_readings after o d ∙ sym (length-set (readings bytes o d) k (holds v p) ∙ four) in
    ap (λ l. readings l o d) (after_there bytes p o d v k h)
    ∙ ext_get_or empty (readings after o d) (set (readings bytes o d) k (holds v p)) lengths (λ i less.
    let under : i < 4 = omega (arith, length_readings after o d) in
    get_or_readings after o d i under ∙ elim (cases_eq i k) [
      | inl same ↦ ap (λ j. read_slot o d (slot_at after o j)) same ∙ ap (read_slot o d) (slot_stands bytes new o k long) ∙ reads_there bytes p o d v k (omega arith) h
          ∙ sym (ap (λ j. get_or (set (readings bytes o d) k (holds v p)) j empty) same ∙ get_or-set_same (readings bytes o d) k (holds v p) empty (omega arith))
      | inr other ↦ ap (read_slot o d) (others_stand bytes new o k o i below under long (λ e. other (sym e.1))) ∙ sym (get_or_readings bytes o d i under)
          ∙ sym (get_or-set_other (readings bytes o d) k i (holds v p) empty other)
    ])

reads_cleared : (o d : ℕ) (rule : Rule) (slot : List ℕ) → read_slot o d (cleared_if o d rule slot) ≡ cond (names_slot rule (read_slot o d slot)) empty (read_slot o d slot)
reads_cleared o d rule slot = let gone = cleared_reads_empty o d slot in grind (arith, nat_tests)

pub taking_reads : TakingReads
taking_reads bytes o d rule =
    let after = taken_below 4 bytes o d rule in
    let left = λ (s : Slot). cond (names_slot rule s) empty s in
    let four = length_readings bytes o d in
    ext_get_or empty (readings after o d) (map left (readings bytes o d)) (length_readings after o d ∙ sym (length-map (readings bytes o d) left ∙ four)) (λ i less.
    let under : i < 4 = omega (arith, length_readings after o d) in
    get_or_readings after o d i under ∙ ap (read_slot o d) (below_done 4 bytes o d i rule under (omega arith)) ∙ reads_cleared o d rule (slot_at bytes o i)
    ∙ ap left (sym (get_or_readings bytes o d i under)) ∙ sym (get_or-map left (readings bytes o d) i empty empty (omega arith)))

write_others : (bytes p : List ℕ) (o d v o' k' : ℕ) (r : Option ℕ) → r ≡ place_for v (readings bytes o d) → (o ≡ o' → ⊥) → k' < 4 → slot_at (written_at bytes o d v p r) o' k' ≡ slot_at bytes o' k'
write_others bytes p o d v o' k' None e apart h = refl
write_others bytes p o d v o' k' (Some k) e apart h =
    let new = written o d v p (slot_at bytes o k) in
    let others = others_stand bytes new o k o' k' (place_below v k bytes o d e) h (length_written o d v p (slot_at bytes o k)) (λ f. apart f.0) in grind (arith, nat_tests)

pub other_objects : OtherObjects
other_objects bytes p o d v o' k' rule apart h =
    (write_others bytes p o d v o' k' (place_for v (readings bytes o d)) refl apart h, below_others 4 bytes o d o' k' rule (omega arith) h apart)

pub rereading : Rereading
rereading = record { write = write_reads; take = taking_reads; others = other_objects }
