-- The values of rows: how many there are, which one stands where, and that enough of them determine the rows.
use Rattle.std.proofs.Common.{◌≡◌, ℕ, zero, suc, ◌+◌, ◌*◌, ◌<◌, ◌≤◌, List, ◌∷◌, ◌++◌, length, get_or, take, drop, sym, refl, ap, ◌∙◌, ap₂, suc-mul, zero-mul, arith}
use mathlib.Core.List.{Memᴰ}
use Rattle.std.proofs.lemmas.List.{drop-drop, length-take-le, length-drop, take-append-drop, same_lists, nil_from_length, get_or_default, drop_all, drop_more, length-take, get_or-take, get_or-drop}
use Rattle.std.proofs.lemmas.Nat.{mul-le}
use Rattle.std.proofs.ByRecursion.{All-take, All-drop}
use Rattle.elimination.specs.Polynomial.{value, Bytes, Distinct}
use Rattle.elimination.proofs.Roots.{determined}
use Rattle.byte_field.specs.Byte.{IsByte, add, mul}
use Rattle.pieces.specs.Rows.{values}

pub length_values : (need rows x : ℕ) (flat : List ℕ) → length (values need rows x flat) ≡ rows
unfolding values
length_values need zero x flat = refl
length_values need (suc rows) x flat = ap suc (length_values need rows x (drop need flat))

-- The row at a place.
abbrev pub row : (need : ℕ) → List ℕ → ℕ → List ℕ
row need flat r = take need (drop (r * need) flat)

pub get_or_values : (need rows x : ℕ) (flat : List ℕ) (r d : ℕ) → r < rows → get_or (values need rows x flat) r d ≡ value (row need flat r) x
unfolding values
get_or_values need zero x flat r d h = absurd (omega arith)
get_or_values need (suc rows) x flat zero d h = ap (λ k. value (take need (drop k flat)) x) (sym (zero-mul need))
get_or_values need (suc rows) x flat (suc r) d h =
    get_or_values need rows x (drop need flat) r d (omega arith)
    ∙ ap (λ k. value (take need k) x) (drop-drop (r * need) need flat ∙ ap (λ k. drop k flat) (omega (arith, suc-mul r need)))

-- What stands at each place is the value of its row.
pub values_are : (need rows x : ℕ) (flat piece : List ℕ) → length piece ≡ rows → ((r : ℕ) → r < rows → get_or piece r 0 ≡ value (row need flat r) x) → piece ≡ values need rows x flat
values_are need rows x flat piece long at =
    same_lists piece (values need rows x flat) (long ∙ sym (length_values need rows x flat))
    (λ k d h. get_or_default piece k d 0 h ∙ at k (omega arith) ∙ sym (get_or_values need rows x flat k d (omega arith)))

-- Horner's rule on one row: at its end there is nothing, and a column before that multiplies by x and adds its byte.
pub past_row : (need : ℕ) (flat : List ℕ) (r x : ℕ) → value (drop need (row need flat r)) x ≡ 0
unfolding value
past_row need flat r x = ap (λ cs. value cs x) (drop_all need (row need flat r) (simp length-take (omega arith)))

pub before_column : (need : ℕ) (flat : List ℕ) (r k j x v : ℕ) → j ≡ k + 1 → k < need → r * need + need ≤ length flat → v ≡ value (drop j (row need flat r)) x → add (get_or flat (r * need + k) 0) (mul x v) ≡ value (drop k (row need flat r)) x
unfolding value
before_column need flat r k j x v e h long is =
    let inside : k < length (row need flat r) = simp (length-take, length-drop) (omega arith) in
    ap (λ u. add (get_or flat (r * need + k) 0) (mul x u)) (is ∙ ap (λ m. value (drop m (row need flat r)) x) e)
    ∙ ap (λ b. add b (mul x (value (drop (k + 1) (row need flat r)) x))) (sym (get_or-take need (drop (r * need) flat) k 0 h ∙ get_or-drop (r * need) flat k 0))
    ∙ ap (λ cs. value cs x) (sym (drop_more (row need flat r) k 0 inside))

-- A row lies within the rows.
pub row_inside : (need rows : ℕ) (flat : List ℕ) (r : ℕ) → r < rows → length flat ≡ rows * need → r * need + need ≤ length flat
row_inside need rows flat r h long = omega (arith, suc-mul r need, mul-le (suc r) need rows need h (omega arith))

-- Rows are determined by their values at as many points as a row has bytes.
pub rows_determined : (need rows : ℕ) (xs f g : List ℕ) → Bytes f → Bytes g → Bytes xs → Distinct xs → need ≤ length xs → length f ≡ rows * need → length g ≡ rows * need → ((x : ℕ) → Memᴰ x xs → values need rows x f ≡ values need rows x g) → f ≡ g
unfolding values
rows_determined need zero xs f g bf bg bx d h lf lg same =
    nil_from_length f (lf ∙ zero-mul need) ∙ sym (nil_from_length g (lg ∙ zero-mul need))
rows_determined need (suc rows) xs f g bf bg bx d h lf lg same =
    let e = suc-mul rows need in
    let tf : length (take need f) ≡ need = length-take-le need f (omega arith) in
    let tg : length (take need g) ≡ need = length-take-le need g (omega arith) in
    let first : take need f ≡ take need g =
    determined (take need f) (take need g) xs (All-take IsByte need f bf) (All-take IsByte need g bg) bx d (tf ∙ sym tg) (omega arith)
    (λ x m. heads (same x m)) in
    let rest : drop need f ≡ drop need g =
    rows_determined need rows xs (drop need f) (drop need g) (All-drop IsByte need f bf) (All-drop IsByte need g bg) bx d h
    (simp length-drop (omega arith)) (simp length-drop (omega arith)) (λ x m. tails (same x m)) in
    sym (take-append-drop need f) ∙ ap₂ (λ s t. s ++ t) first rest ∙ take-append-drop need g
  where
    heads : {a b : ℕ} {l m : List ℕ} → a ∷ l ≡ b ∷ m → a ≡ b
    heads p = cc

    tails : {a b : ℕ} {l m : List ℕ} → a ∷ l ≡ b ∷ m → l ≡ m
    tails p = cc
