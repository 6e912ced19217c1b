-- Rows of bytes: what `add_scaled` leaves at each place, and the loop that does it from front to back.
-- Assumes nothing.
use Rattle.std.proofs.Common.{◌≡◌, ℕ, zero, suc, ◌+◌, ◌<◌, ◌≤◌, min, List, [], ◌∷◌, ◌++◌, length, get_or, take, drop, set, refl, ap, ◌∙◌, ⊎_elim, le_of_suc-le-suc, not-suc-le-zero, add-one, arith}
use Rattle.std.proofs.lemmas.List.{append-nil, take-append-drop, take_all, drop_all}
use Rattle.std.proofs.lemmas.Bool.{cases_lt}
use Rattle.byte_field.specs.Byte.{add, mul}
use Rattle.byte_field.specs.Slices.{add_scaled}

pub length_add_scaled : (c : ℕ) (ds ss : List ℕ) → length (add_scaled c ds ss) ≡ length ds
unfolding add_scaled
length_add_scaled c [] ss = refl
length_add_scaled c (d ∷ ds) [] = refl
length_add_scaled c (d ∷ ds) (s ∷ ss) = ap suc (length_add_scaled c ds ss)

pub add_scaled_get_or : (c : ℕ) (ds ss : List ℕ) (i : ℕ) → i < length ds → i < length ss
    → get_or (add_scaled c ds ss) i 0 ≡ add (get_or ds i 0) (mul c (get_or ss i 0))
unfolding add_scaled
add_scaled_get_or c [] ss i below short = absurd (not-suc-le-zero below)
add_scaled_get_or c (d ∷ ds) [] i below short = absurd (not-suc-le-zero short)
add_scaled_get_or c (d ∷ ds) (s ∷ ss) zero below short = refl
add_scaled_get_or c (d ∷ ds) (s ∷ ss) (suc i) below short = add_scaled_get_or c ds ss i (le_of_suc-le-suc below) (le_of_suc-le-suc short)

-- Past the end of the second row the first is as it was.
pub add_scaled_past : (c : ℕ) (ds ss : List ℕ) (i : ℕ) → length ss ≤ i → get_or (add_scaled c ds ss) i 0 ≡ get_or ds i 0
unfolding add_scaled
add_scaled_past c [] ss i past = refl
add_scaled_past c (d ∷ ds) [] i past = refl
add_scaled_past c (d ∷ ds) (s ∷ ss) zero past = absurd (not-suc-le-zero past)
add_scaled_past c (d ∷ ds) (s ∷ ss) (suc i) past = add_scaled_past c ds ss i (le_of_suc-le-suc past)

-- A row that is done before place `i`, with the rest still to be done.
abbrev pub done_from : (c i : ℕ) → List ℕ → List ℕ → List ℕ
done_from c i ds ss = take i ds ++ add_scaled c (drop i ds) (drop i ss)

one_more : (c i : ℕ) (ds ss : List ℕ) → i < length ds → i < length ss
    → done_from c (suc i) (set ds i (add (get_or ds i 0) (mul c (get_or ss i 0)))) ss ≡ done_from c i ds ss
unfolding add_scaled
one_more c i [] ss below short = absurd (not-suc-le-zero below)
one_more c i (d ∷ ds) [] below short = absurd (not-suc-le-zero short)
one_more c zero (d ∷ ds) (s ∷ ss) below short = refl
one_more c (suc i) (d ∷ ds) (s ∷ ss) below short = ap (λ rest. d ∷ rest) (one_more c i ds ss (le_of_suc-le-suc below) (le_of_suc-le-suc short))

pub done_more : (c i : ℕ) (ds ss : List ℕ) → i < length ds → i < length ss
    → done_from c (i + 1) (set ds i (add (get_or ds i 0) (mul c (get_or ss i 0)))) ss ≡ done_from c i ds ss
done_more c i ds ss below short =
    ap (λ k. done_from c k (set ds i (add (get_or ds i 0) (mul c (get_or ss i 0)))) ss) (add-one i) ∙ one_more c i ds ss below short

none_left : (c : ℕ) (ds : List ℕ) → add_scaled c ds [] ≡ ds
unfolding add_scaled
none_left c [] = refl
none_left c (d ∷ ds) = refl

-- Where the shorter row has ended, nothing is left to do.
pub done_all : (c i : ℕ) (ds ss : List ℕ) → min (length ds) (length ss) ≤ i → done_from c i ds ss ≡ ds
unfolding add_scaled
done_all c i ds ss ended =
    ⊎_elim (λ more.
    let past : length ss ≤ i = omega arith in
    ap (λ r. take i ds ++ add_scaled c (drop i ds) r) (drop_all i ss past) ∙ ap (λ r. take i ds ++ r) (none_left c (drop i ds)) ∙ take-append-drop i ds)
    (λ past. ap (λ r. take i ds ++ add_scaled c r (drop i ss)) (drop_all i ds past) ∙ append-nil (take i ds) ∙ take_all i ds past)
    (cases_lt i (length ds))
