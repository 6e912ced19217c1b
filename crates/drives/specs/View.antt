-- What counts of the readings of an object's places, and the place for a version: functions of the list of readings alone.
-- Assumes nothing.
use Rattle.std.specs.Prelude.{ℕ, ◌+◌, Bool, true, false, cond, List, [], ◌∷◌, ◌++◌, map, is_some, Some, None, Option, ◌==◌}
use Rattle.std.specs.Option.{option_map}
use Rattle.slots.specs.Slot.{Slot, empty, holds}

-- The version that a slot has.
abbrev pub version_of : Slot → Option ℕ
version_of empty = None
version_of (holds v p) = Some v

abbrev pub same : Option ℕ → Option ℕ → Bool
same None None = true
same None (Some w) = false
same (Some v) None = false
same (Some v) (Some w) = v == w

-- The lowest place of a list at which `x` stands.
abbrev pub index_of : Option ℕ → List (Option ℕ) → Option ℕ
index_of x [] = None
index_of x (y ∷ ys) = cond (same x y) (Some 0) (option_map (λ i. i + 1) (index_of x ys))

-- Of what has a version each, by `f`, what has a version that stands earlier counts as `none`.
abbrev pub firsts_after : {X : Type 0} → (X → Option ℕ) → X → (earlier : List (Option ℕ)) → List X → List X
firsts_after f none earlier [] = []
firsts_after f none earlier (x ∷ xs) = cond (is_some (index_of (f x) earlier)) none x ∷ firsts_after f none (earlier ++ (f x ∷ [])) xs

-- What counts of an object's readings: a slot whose version an earlier one has counts as empty. And the versions that count, place by place.
abbrev pub distinct : List Slot → List Slot
distinct slots = firsts_after version_of empty [] slots

abbrev pub firsts : List (Option ℕ) → List (Option ℕ)
firsts versions = firsts_after (λ v. v) None [] versions

-- The place for a version where these versions count: its own, else the lowest free one; none where all have other versions.
abbrev pub or_else : Option ℕ → Option ℕ → Option ℕ
or_else (Some k) other = Some k
or_else None other = other

abbrev pub place_in : ℕ → List (Option ℕ) → Option ℕ
place_in v versions = or_else (index_of (Some v) versions) (index_of None versions)

abbrev pub place_for : ℕ → List Slot → Option ℕ
place_for v slots = place_in v (map version_of (distinct slots))

-- The piece of a version: that of the lowest place that has it.
abbrev pub find : ℕ → List Slot → Option (List ℕ)
find v [] = None
find v (empty ∷ slots) = find v slots
find v (holds w p ∷ slots) = cond (w == v) (Some p) (find v slots)
