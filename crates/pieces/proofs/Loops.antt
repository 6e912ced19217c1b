-- Chains that test a part of each element of a list.
use Rattle.std.proofs.Common.{ℕ, ◌<◌, List, [], ◌∷◌, map, length, get_or, sym, subst, arith}
use Rattle.std.specs.List.{AllByRecursion, AllWithin, HoldsAt}
use Rattle.std.proofs.ByRecursion.{All-map, All-get_or, all_from_every}
use Rattle.std.proofs.lemmas.List.{get_or-map, length-map}

-- All parts are as they should be where the part of each element is.
pub all_parts : {X Y : Type 0} (f : X → Y) (P : Y → Type 0) (xs : List X) → AllWithin (λ x. P (f x)) xs 0 (length xs) → AllByRecursion P (map f xs)
all_parts f P xs h = All-map P f xs (all_from_every (λ x. P (f x)) xs h)

-- A part is as all are.
pub part_is : {X Y : Type 0} (f : X → Y) (P : Y → Type 0) (xs : List X) (k : ℕ) (d : X) → k < length xs → AllByRecursion P (map f xs) → P (f (get_or xs k d))
part_is f P xs k d h all =
    subst P (get_or-map f xs k d (f d) h) (All-get_or P (map f xs) k (f d) (subst (λ n. k < n) (sym (length-map xs f)) h) all)

-- Where one isn't, not all are.
pub not_all_parts : {X Y : Type 0} (f : X → Y) (P : Y → Type 0) (xs : List X) (k : ℕ) → k < length xs → HoldsAt (λ x. P (f x) → ⊥) xs k → AllByRecursion P (map f xs) → ⊥
not_all_parts f P [] k h fails all = absurd (omega arith)
not_all_parts f P (x ∷ xs) k h fails all = fails x (part_is f P (x ∷ xs) k x h all)
