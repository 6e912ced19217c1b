-- Cells of a matrix that stands row after row in one list: where its rows stand, and what a write to one row leaves.
use Rattle.std.proofs.Common.{◌≡◌, ℕ, suc, ◌+◌, ◌-◌, ◌*◌, ◌<◌, ◌≤◌, List, length, get_or, take, drop, sym, refl, ap, ◌∙◌, inl, inr, mul-le-mul_right, suc-mul, arith}
use borrow.Rule.Slice.PartMut.{put_mid}
use Rattle.std.proofs.lemmas.List.{length-append, length-take, length-take-le, length-drop, get_or-take, get_or-drop}
use Rattle.std.proofs.lemmas.Slice.{take-put_mid_below, drop-put_mid, between-put_mid}
use Rattle.std.proofs.lemmas.Bool.{cases_order}
use Rattle.byte_field.specs.Byte.{add, mul}
use Rattle.byte_field.specs.Slices.{add_scaled}
use Rattle.byte_field.proofs.Slices.{length_add_scaled, add_scaled_get_or}
use Rattle.elimination.specs.Matrix.{cell, RowAdded}

-- A row stands in its matrix.
pub row_within : (k w i n : ℕ) → n ≡ k * w → i < k → i * w + w ≤ n
row_within k w i n e hi = let h : suc i * w ≤ k * w = mul-le-mul_right w hi in let s : suc i * w ≡ i * w + w = suc-mul i w in omega arith

-- A cell of a row, read in the row alone.
pub part_cell : (w i n t : ℕ) (m : List ℕ) → n ≡ w → t < w → get_or (take n (drop (i * w) m)) t 0 ≡ cell w m i t
part_cell w i n t m e h = get_or-take n (drop (i * w) m) t 0 (omega arith) ∙ get_or-drop (i * w) m t 0

module _ (a n : ℕ) (xs ys : List ℕ) (within : a + n ≤ length xs) (long : length ys ≡ n) where
  length_put_mid : length (put_mid a n xs ys) ≡ length xs
  length_put_mid = simp (length-append, length-take, length-drop) (omega arith)

  put_mid_below : (j : ℕ) → j < a → get_or (put_mid a n xs ys) j 0 ≡ get_or xs j 0
  put_mid_below j h =
      sym (get_or-take a (put_mid a n xs ys) j 0 h) ∙ ap (λ (l : List ℕ). get_or l j 0) (take-put_mid_below a n xs ys a (omega arith) (omega arith))
      ∙ get_or-take a xs j 0 h

  put_mid_inside : (t : ℕ) → t < n → get_or (put_mid a n xs ys) (a + t) 0 ≡ get_or ys t 0
  put_mid_inside t h =
      sym (get_or-drop a (put_mid a n xs ys) t 0) ∙ sym (get_or-take (a + n - a) (drop a (put_mid a n xs ys)) t 0 (omega arith))
      ∙ ap (λ (l : List ℕ). get_or l t 0) (between-put_mid a n xs ys (a + n) (omega arith) (omega arith))

  put_mid_above : (j : ℕ) → a + n ≤ j → get_or (put_mid a n xs ys) j 0 ≡ get_or xs j 0
  put_mid_above j h =
      let d : ℕ = j - (a + n) in
      let split : a + n + d ≡ j = omega arith in
      ap (λ (i : ℕ). get_or (put_mid a n xs ys) i 0) (sym split) ∙ sym (get_or-drop (a + n) (put_mid a n xs ys) d 0)
      ∙ ap (λ (l : List ℕ). get_or l d 0) (drop-put_mid a n xs ys (a + n) (omega arith) (omega arith) long)
      ∙ get_or-drop (a + n) xs d 0 ∙ ap (λ (i : ℕ). get_or xs i 0) split

-- What is left when a multiple of a list was added to one row.
pub row_added :
    (w i n factor : ℕ) (m source row : List ℕ) → n ≡ w → i * w + w ≤ length m → length source ≡ w →
    row ≡ add_scaled factor (take n (drop (i * w) m)) source → RowAdded w i factor source m (put_mid (i * w) n m row)
row_added w i n factor m source row e within ls is =
    record {
      long = length_put_mid (i * w) n m row (omega arith) lr;
      there = λ t h.
          put_mid_inside (i * w) n m row (omega arith) lr t (omega arith) ∙ ap (λ (l : List ℕ). get_or l t 0) is
          ∙ add_scaled_get_or factor (take n (drop (i * w) m)) source t (omega (arith, lp)) (omega arith)
          ∙ ap (λ (x : ℕ). add x (mul factor (get_or source t 0))) (part_cell w i n t m e h);
      elsewhere = elsewhere;
    }
  where
    lp : length (take n (drop (i * w) m)) ≡ n
    lp = let ld = length-drop (i * w) m in length-take-le n (drop (i * w) m) (omega arith)

    lr : length row ≡ n
    lr = ap length is ∙ length_add_scaled factor (take n (drop (i * w) m)) source ∙ lp

    elsewhere : (j t : ℕ) → t < w → (j ≡ i → ⊥) → cell w (put_mid (i * w) n m row) j t ≡ cell w m j t
    elsewhere j t h ne =
        elim (cases_order j i) [
          | inl same ↦ absurd (ne same)
          | inr (inl l) ↦ let before = row_within i w j (i * w) refl l in put_mid_below (i * w) n m row (omega arith) lr (j * w + t) (omega arith)
          | inr (inr l) ↦ let after = row_within j w i (j * w) refl l in put_mid_above (i * w) n m row (omega arith) lr (j * w + t) (omega arith)
        ]
