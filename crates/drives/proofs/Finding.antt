-- Searches through the places of an object, from the lowest on.
use Rattle.std.proofs.Common.{◌≡◌, ℕ, ◌+◌, ◌<◌, ◌≤◌, eqb, is_some, List, [], ◌∷◌, drop, Some, None, Option, refl, ap, ◌∙◌, arith}
use Rattle.std.specs.Option.{option_eq}
use Rattle.std.specs.List.{position, list_any}
use Rattle.std.proofs.lemmas.Bool.Decides.{nat_tests}
use Rattle.std.proofs.lemmas.List.{drop_more, drop_all}
use Rattle.slots.specs.Slot.{empty, read_slot}
use Rattle.drives.specs.Place.{slot_at, readings}
use Rattle.drives.proofs.Counting.{length_readings, get_or_readings}
use Rattle.drives.specs.View.{same, index_of, find}

-- `==` says of what two places have whether it is the same.
equal_same : (x y : Option ℕ) → option_eq eqb x y ≡ same x y
equal_same None None = refl
equal_same None (Some w) = refl
equal_same (Some v) None = refl
equal_same (Some v) (Some w) = refl

turned_same : (x y : Option ℕ) → option_eq eqb y x ≡ same x y
turned_same None None = refl
turned_same None (Some w) = refl
turned_same (Some v) None = refl
turned_same (Some v) (Some w) = grind (arith, nat_tests)

-- The first place that has the same, and whether there is one.
pub index_position : (x : Option ℕ) (ys : List (Option ℕ)) → position (option_eq eqb x) ys ≡ index_of x ys
index_position x [] = refl
index_position x (y ∷ ys) = let e = equal_same x y in let i = index_position x ys in grind (arith, nat_tests)

pub index_any : (x : Option ℕ) (ys : List (Option ℕ)) → list_any (λ y. option_eq eqb y x) ys ≡ is_some (index_of x ys)
index_any x [] = refl
index_any x (y ∷ ys) = let turned = turned_same x y in let later = index_any x ys in grind (arith, nat_tests)

-- The piece of a version: what is left from a place on begins with that place's reading, and past the places there is none.
pub find_step : (bytes : List ℕ) (o d v k : ℕ) → k < 4 → find v (drop k (readings bytes o d)) ≡ find v (read_slot o d (slot_at bytes o k) ∷ drop (k + 1) (readings bytes o d))
find_step bytes o d v k h =
    let long = length_readings bytes o d in
    ap (find v) (drop_more (readings bytes o d) k empty (omega arith) ∙ ap (λ s. s ∷ drop (k + 1) (readings bytes o d)) (get_or_readings bytes o d k h))

pub find_end : (bytes : List ℕ) (o d v k : ℕ) → 4 ≤ k → find v (drop k (readings bytes o d)) ≡ None
find_end bytes o d v k h = let long = length_readings bytes o d in ap (find v) (drop_all k (readings bytes o d) (omega arith))
