-- The place for a version is one of an object's places.
use Rattle.std.proofs.Common.{◌≡◌, ℕ, zero, suc, ◌<◌, false, List, [], ◌∷◌, map, length, Some, None, Err, Option, ◌∙◌, arith}
use Rattle.std.proofs.lemmas.List.{length-map}
use Rattle.std.proofs.lemmas.Bool.Decides.{nat_tests}
use Rattle.slots.specs.Slot.{empty, has_room, written}
use Rattle.slots.proofs.Writing.{written_none}
use Rattle.drives.specs.Place.{slot_at, with_slot, readings}
use Rattle.drives.specs.Steps.{write_answer, after_write}
use Rattle.drives.specs.declared.piece.Unwritten.TheVariants.{NoRoom}
use Rattle.drives.specs.View.{index_of, place_for, version_of, distinct}
use Rattle.drives.proofs.Counting.{length_readings, length_firsts_after}
use Rattle.drives.proofs.Standing.{slot_same}

-- A place that is found is one of the list's.
index_within : (x : Option ℕ) (ys : List (Option ℕ)) (k : ℕ) → index_of x ys ≡ Some k → k < length ys
index_within x [] k e = cc
index_within x (y ∷ ys) zero e = omega arith
index_within x (y ∷ ys) (suc k) e = let later = index_within x ys k in grind (arith, nat_tests)

pub place_below : (v k : ℕ) (bytes : List ℕ) (o d : ℕ) → Some k ≡ place_for v (readings bytes o d) → k < 4
place_below v k bytes o d e =
    let ss = readings bytes o d in
    let versions = map version_of (distinct ss) in
    let long : length versions ≡ 4 = length-map (distinct ss) version_of ∙ length_firsts_after version_of empty [] ss ∙ length_readings bytes o d in
    let own = index_within (Some v) versions k in
    let free = index_within None versions k in grind (arith, nat_tests)

-- The answer to a writing and the drive after it, once the place is known.
pub answer_full : (bytes p : List ℕ) (o d v k : ℕ) → Some k ≡ place_for v (readings bytes o d) → false ≡ has_room (slot_at bytes o k) p → Err NoRoom ≡ write_answer bytes o d v p
answer_full bytes p o d v k e t = grind (arith, nat_tests)

pub after_full : (bytes last p : List ℕ) (o d v k : ℕ) → Some k ≡ place_for v (readings bytes o d) → false ≡ has_room (slot_at bytes o k) p →
    last ≡ with_slot bytes o k (written o d v p (slot_at bytes o k)) → last ≡ after_write bytes o d v p
after_full bytes last p o d v k e t f = let none = written_none o d v p (slot_at bytes o k) t in let same = slot_same bytes o k in grind (arith, nat_tests)
