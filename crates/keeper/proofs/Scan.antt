-- The steps of a loop over a slice that looks for an element or adds up what it meets, by what is left to look at.
use Rattle.std.proofs.Common.{◌≡◌, ℕ, zero, suc, ◌+◌, ◌-◌, ◌<◌, ◌≤◌, Bool, true, false, cond, List, [], ◌∷◌, map, length, get_or, take, drop, Some, None, refl, ap, ◌∙◌, ⊎_elim, add-one, ◌||◌, arith}
use Rattle.std.proofs.lemmas.List.{drop_more, take_all}
use Rattle.std.proofs.lemmas.List.Sums.{count_by_more_yes, count_by_more_no}
use Rattle.std.specs.List.{list_any, count_by, find}
use Rattle.std.specs.Option.{option_map}
use Rattle.std.proofs.lemmas.Bool.{cases_eq, and_right}
use Rattle.keeper.specs.declared.object.Entry.{Entry}
use Rattle.keeper.specs.Object.{Reading}
use Rattle.keeper.specs.Shown.{reading_of, readings_of}
use Rattle.keeper.specs.Readings.{any_of, is_of, taken, how_many_in, out_or_has, all_have, free_place, own_place}

-- What is left begins with the element that was read.
pub drop_read : {X : Type 0} (xs : List X) (i : ℕ) (x : X) → i < length xs → x ≡ get_or xs i x → drop i xs ≡ x ∷ drop (i + 1) xs
drop_read xs i x h e = let more = drop_more xs i x h in cc

-- Whether some element passes, in the words of the library.
pub any_seen : {X Y : Type 0} (p : Y → Bool) (f : X → Y) (xs : List X) → any_of p (map f xs) ≡ list_any (λ x. p (f x)) xs
unfolding any_of
any_seen p f [] = refl
any_seen p f (x ∷ xs) = ap (λ b. p (f x) || b) (any_seen p f xs)

-- The drives that are in, counted from the last or from the first.
counted_step : (flags : List Bool) (n k : ℕ) (b : Bool) → n < length flags → get_or flags n false ≡ b → k ≡ count_by (λ x. x) (take n flags) → cond b 1 0 + k ≡ count_by (λ x. x) (take (n + 1) flags)
counted_step flags n k true h e before = omega (arith, before, count_by_more_yes (λ x. x) flags n false h e)
counted_step flags n k false h e before = omega (arith, before, count_by_more_no (λ x. x) flags n false h e)

pub how_many_in_taken : (flags : List Bool) (n : ℕ) → n ≤ length flags → how_many_in n (λ d. get_or flags d false) ≡ count_by (λ x. x) (take n flags)
unfolding how_many_in
how_many_in_taken flags zero h = refl
how_many_in_taken flags (suc n) h =
    counted_step flags n (how_many_in n (λ d. get_or flags d false)) (get_or flags n false) (omega arith) refl (how_many_in_taken flags n (omega arith))
    ∙ ap (λ k. count_by (λ x. x) (take k flags)) (add-one n)

pub how_many_in_all : (flags : List Bool) → how_many_in (length flags) (λ d. get_or flags d false) ≡ count_by (λ x. x) flags
how_many_in_all flags = how_many_in_taken flags (length flags) (omega arith) ∙ ap (count_by (λ x. x)) (take_all (length flags) flags (omega arith))

-- A loop that looks for a drive that is in and lacks the version.
module _ (is_in : ℕ → Bool) (v : ℕ) (rs : List Reading) where
  pub all_have_none : all_have 0 is_in v rs ≡ true
  unfolding all_have
  all_have_none = refl

  pub all_have_more : (i : ℕ) → out_or_has (is_in i) i v rs ≡ true → all_have i is_in v rs ≡ true → all_have (i + 1) is_in v rs ≡ true
  unfolding all_have
  all_have_more i here below = rw (add-one, here) below

  pub all_have_not : (i n : ℕ) → i < n → out_or_has (is_in i) i v rs ≡ false → all_have n is_in v rs ≡ false
  unfolding all_have
  all_have_not i zero h isnt = absurd (omega arith)
  all_have_not i (suc n) h isnt =
      ⊎_elim (λ e. rw (← e, isnt)) (λ ne. rw (all_have_not i n (omega arith) isnt, and_right _ false refl)) (cases_eq i n)

-- A loop over the places of a drive: what is left decides.
module _ (d : ℕ) (rs : List Reading) where
  pub free_found : (k n : ℕ) → k < n → taken d k rs ≡ false → free_place (n - k) d k rs ≡ Some k
  unfolding free_place
  free_found k n h isnt = let one : n - k ≡ suc (n - (k + 1)) = omega arith in rw (one, isnt)

  pub free_again : (k n : ℕ) → k < n → taken d k rs ≡ true → free_place (n - k) d k rs ≡ free_place (n - (k + 1)) d (k + 1) rs
  unfolding free_place
  free_again k n h is = let one : n - k ≡ suc (n - (k + 1)) = omega arith in rw (one, is, add-one)

  pub free_none : (k n : ℕ) → n ≤ k → free_place (n - k) d k rs ≡ None
  unfolding free_place
  free_none k n h = let z : n - k ≡ 0 = omega arith in rw z

-- The place of the first piece of a version on a drive.
pub own_place_found : (d v : ℕ) (es : List Entry) → own_place d v (readings_of es) ≡ option_map (λ e. e.place) (find (λ e. is_of d v (reading_of e)) es)
unfolding own_place
own_place_found d v [] = refl
own_place_found d v (e ∷ es) = elim (is_of d v (reading_of e)) as (λ b. cond b (Some e.place) (own_place d v (readings_of es)) ≡ option_map (λ e. e.place) (cond b (Some e) (find (λ e. is_of d v (reading_of e)) es))) [ true ↦ refl | false ↦ own_place_found d v es ]
