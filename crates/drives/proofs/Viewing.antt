-- What the place for a version means for what is found afterwards.
use Rattle.std.proofs.Common.{◌≡◌, ℕ, zero, suc, ◌<◌, Bool, true, false, cond, ◌⊎◌, List, [], ◌∷◌, ◌++◌, map, length, get_or, set, is_some, Some, None, Option, sym, refl, ◌∙◌, arith}
use Rattle.std.proofs.lemmas.List.{length-map, get_or-map}
use Rattle.std.proofs.lemmas.Bool.Decides.{nat_tests}
use Rattle.std.proofs.lemmas.Bool.{eqb-false, ne_eqb}
use Rattle.slots.specs.Slot.{Slot, empty, holds}
use Rattle.drives.specs.View.{version_of, same, index_of, firsts_after, distinct, find}
use Rattle.drives.specs.Laws.{FindsWritten, KeepsOthers, OnlyFull, Views}
use Rattle.drives.proofs.Counting.{length_firsts_after}

abbrev seen : Option ℕ → List (Option ℕ) → Bool
seen x ys = is_some (index_of x ys)

-- What was seen once one more was.
unseen_push : (x y : Option ℕ) (ys : List (Option ℕ)) → seen x ys ≡ false → same x y ≡ false → seen x (ys ++ (y ∷ [])) ≡ false
unseen_push x y [] h t = grind (arith, nat_tests)
unseen_push x y (z ∷ ys) h t = let later = unseen_push x y ys in grind (arith, nat_tests)

-- Whether a slot has a version that stands nowhere earlier isn't changed by what counts.
head_by : (v : ℕ) (e : List (Option ℕ)) → seen (Some v) e ≡ false → (b : Bool) (s : Slot) → seen (version_of s) e ≡ b →
    same (Some v) (version_of (cond b empty s)) ≡ same (Some v) (version_of s)
head_by v e new false s h = refl
head_by v e new true empty h = refl
head_by v e new true (holds w q) h = grind (arith, nat_tests)

-- Such a version is first among what counts where it is first among all.
index_counted : (v : ℕ) (e : List (Option ℕ)) (ss : List Slot) → seen (Some v) e ≡ false →
    index_of (Some v) (map version_of (firsts_after version_of empty e ss)) ≡ index_of (Some v) (map version_of ss)
index_counted v e [] new = refl
index_counted v e (s ∷ ss) new =
    let head = head_by v e new (seen (version_of s) e) s refl in
    let push = unseen_push (Some v) (version_of s) e new in
    let later = index_counted v (e ++ (version_of s ∷ [])) ss in grind (arith, nat_tests)

-- A search passes a slot that hasn't the version, and ends at one that has.
find_skip : (v : ℕ) (s : Slot) (ss : List Slot) → same (Some v) (version_of s) ≡ false → find v (s ∷ ss) ≡ find v ss
find_skip v empty ss h = refl
find_skip v (holds w q) ss h = grind (arith, nat_tests)

find_hit : (v : ℕ) (s : Slot) (xs ys : List Slot) → same (Some v) (version_of s) ≡ true → find v (s ∷ xs) ≡ find v (s ∷ ys)
find_hit v empty xs ys h = cc
find_hit v (holds w q) xs ys h = grind (arith, nat_tests)

-- What an index says, and what it says that there is none.
index_at : (x : Option ℕ) (ys : List (Option ℕ)) (k : ℕ) → index_of x ys ≡ Some k → (k < length ys) × (same x (get_or ys k None) ≡ true)
index_at x [] k e = cc
index_at x (y ∷ ys) zero e = grind (arith, nat_tests)
index_at x (y ∷ ys) (suc k) e = let later = index_at x ys k in grind (arith, nat_tests)

index_none : (x : Option ℕ) (ys : List (Option ℕ)) (k : ℕ) → index_of x ys ≡ None → k < length ys → same x (get_or ys k None) ≡ false
index_none x [] k e h = absurd (omega arith)
index_none x (y ∷ ys) zero e h = grind (arith, nat_tests)
index_none x (y ∷ ys) (suc k) e h = let later = index_none x ys k in grind (arith, nat_tests)

same_means : (v : ℕ) (y : Option ℕ) → same (Some v) y ≡ true → y ≡ Some v
same_means v None h = cc
same_means v (Some w) h = grind (arith, nat_tests)

none_means : (y : Option ℕ) → same None y ≡ true → y ≡ None
none_means None h = refl
none_means (Some w) h = cc

length_versions : (ss : List Slot) → length (map version_of (distinct ss)) ≡ length ss
length_versions ss = length-map (distinct ss) version_of ∙ length_firsts_after version_of empty [] ss

-- What is written at the first place that has a version, or where none has it, is found.
find_set : (v k : ℕ) (p : List ℕ) (ss : List Slot) → k < length ss → ((index_of (Some v) (map version_of ss) ≡ Some k) ⊎ (index_of (Some v) (map version_of ss) ≡ None)) →
    find v (set ss k (holds v p)) ≡ Some p
find_set v k p [] h at = absurd (omega arith)
find_set v zero p (s ∷ ss) h at = grind (arith, nat_tests)
find_set v (suc k) p (s ∷ ss) h at = let later = find_set v k p ss in let skip = find_skip v s (set ss k (holds v p)) in grind (arith, nat_tests)

pub finds_written : FindsWritten
finds_written v k p ss e =
    let versions = map version_of (distinct ss) in
    let counted = index_counted v [] ss refl in
    let long = length_versions ss in
    let own = index_at (Some v) versions k in
    let free = index_at None versions k in
    let found = find_set v k p ss in grind (arith, nat_tests)

-- What is written over a slot that counts as nothing, or has the version itself, hides no other version.
keeps : (v w k : ℕ) (p : List ℕ) (e : List (Option ℕ)) (ss : List Slot) → (w ≡ v → ⊥) → seen (Some w) e ≡ false → k < length ss →
    same (Some w) (version_of (get_or (firsts_after version_of empty e ss) k empty)) ≡ false → find w (set ss k (holds v p)) ≡ find w ss
keeps v w k p e [] other new h free = absurd (omega arith)
keeps v w zero p e (s ∷ ss) other new h free =
    let head = head_by w e new (seen (version_of s) e) s refl in
    find_skip w (holds v p) ss (ne_eqb w v other) ∙ sym (find_skip w s ss (sym head ∙ free))
keeps v w (suc k) p e (s ∷ ss) other new h free =
    let hit = find_hit w s (set ss k (holds v p)) ss in
    let skip = find_skip w s (set ss k (holds v p)) in
    let skipped = find_skip w s ss in
    let push = unseen_push (Some w) (version_of s) e new in
    let later = keeps v w k p (e ++ (version_of s ∷ [])) ss other in grind (arith, nat_tests)

pub keeps_others : KeepsOthers
keeps_others v w k p ss e other =
    let versions = map version_of (distinct ss) in
    let long = length_versions ss in
    let count = length_firsts_after version_of empty [] ss in
    let own = index_at (Some v) versions k in
    let free = index_at None versions k in
    let there = get_or-map version_of (distinct ss) k empty None in
    let own_there = same_means v (get_or versions k None) in
    let free_there = none_means (get_or versions k None) in
    let kept = keeps v w k p [] ss other refl in grind (arith, nat_tests)

other_version : (v : ℕ) (s t : Slot) → t ≡ s → same None (version_of s) ≡ false → same (Some v) (version_of s) ≡ false → (w : ℕ) × (q : List ℕ) × (t ≡ holds w q) × (w ≡ v → ⊥)
other_version v empty t e n h = cc
other_version v (holds w q) t e n h = (w, q, e, λ eq. eqb-false v w h (sym eq))

pub only_full : OnlyFull
only_full v ss e k h =
    let versions = map version_of (distinct ss) in
    let long = length_versions ss in
    let count = length_firsts_after version_of empty [] ss in
    let there = get_or-map version_of (distinct ss) k empty None (omega arith) in
    let own = index_none (Some v) versions k in
    let free = index_none None versions k in
    other_version v (get_or (distinct ss) k empty) (get_or (distinct ss) k empty) refl (grind (arith, nat_tests)) (grind (arith, nat_tests))

pub views : Views
views = record { finds = finds_written; keeps = keeps_others; full = only_full }
