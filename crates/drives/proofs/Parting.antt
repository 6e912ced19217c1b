-- A slot's part of a drive, cut at the drive's end.
use Rattle.std.proofs.Common.{◌≡◌, ℕ, ◌+◌, ◌-◌, ◌<◌, ◌≤◌, min, List, ◌++◌, length, take, drop, sym, ap, ◌∙◌, inl, inr, arith}
use Rattle.std.proofs.lemmas.List.{append_assoc, take-take, take-append-le, drop_all, drop_at, drop-drop, drop-take, drop-append-le, length-append, length-take, length-take-le, length-drop}
use Rattle.std.proofs.lemmas.Bool.{cases_lt}
use Rattle.std.proofs.lemmas.Grind.{common_steps}

-- The part from `a` on of `s` bytes, as the code cuts it.
pub part_cut : (xs : List ℕ) (a s from to : ℕ) → from ≡ min a (length xs) → to ≡ min (a + s) (length xs) → take (to - from) (drop from xs) ≡ take s (drop a xs)
part_cut xs a s from to e f = grind (arith, common_steps)

-- A part written back, as the code cuts it.
pub put_cut : (xs ys : List ℕ) (a s from to : ℕ) → from ≡ min a (length xs) → to ≡ min (a + s) (length xs) →
    take from xs ++ (ys ++ drop (to - from) (drop from xs)) ≡ take a xs ++ (ys ++ drop (a + s) xs)
put_cut xs ys a s from to e f = grind (arith, common_steps)

-- A part written at `a` whose bytes are as many as there were. Past the end there is nothing to write.
put_past : (xs ys : List ℕ) (a s : ℕ) → length xs < a → length ys ≡ length (take s (drop a xs)) → take a xs ++ (ys ++ drop (a + s) xs) ≡ xs
put_past xs ys a s past long = grind (arith, common_steps)

pub put_long : (xs ys : List ℕ) (a s : ℕ) → length ys ≡ length (take s (drop a xs)) → length (take a xs ++ (ys ++ drop (a + s) xs)) ≡ length xs
put_long xs ys a s long = grind (arith, common_steps)

pub put_stands : (xs ys : List ℕ) (a s : ℕ) → length ys ≡ length (take s (drop a xs)) → take s (drop a (take a xs ++ (ys ++ drop (a + s) xs))) ≡ ys
put_stands xs ys a s long = grind (arith, common_steps)

-- A part that doesn't meet it is as it was.
pub put_above : (xs ys : List ℕ) (a b s : ℕ) → length ys ≡ length (take s (drop a xs)) → a + s ≤ b → drop b (take a xs ++ (ys ++ drop (a + s) xs)) ≡ drop b xs
put_above xs ys a b s long above =
    let n : length ys ≡ min s (length xs - a) = long ∙ length-take s (drop a xs) ∙ ap (min s) (length-drop a xs) in
    let total = put_long xs ys a s long in
    elim (cases_lt (length xs) (a + s)) [
      | inl cut ↦ drop_all b (take a xs ++ (ys ++ drop (a + s) xs)) (omega arith) ∙ sym (drop_all b xs (omega arith))
      | inr full ↦ (let front : length (take a xs ++ ys) ≡ a + s = length-append (take a xs) ys ∙ omega (arith, length-take a xs) in
          let k : (a + s) + (b - (a + s)) ≡ b = omega arith in
          let split = sym (append_assoc (take a xs) ys (drop (a + s) xs)) in
          ap (drop b) split ∙ ap (λ m. drop m ((take a xs ++ ys) ++ drop (a + s) xs)) (sym k) ∙ sym (drop-drop (b - (a + s)) (a + s) ((take a xs ++ ys) ++ drop (a + s) xs))
          ∙ ap (drop (b - (a + s))) (drop_at (take a xs ++ ys) (drop (a + s) xs) (a + s) front) ∙ drop-drop (b - (a + s)) (a + s) xs ∙ ap (λ m. drop m xs) k)
    ]

pub put_below : (xs ys : List ℕ) (a b s : ℕ) → length ys ≡ length (take s (drop a xs)) → b + s ≤ a →
    take s (drop b (take a xs ++ (ys ++ drop (a + s) xs))) ≡ take s (drop b xs)
put_below xs ys a b s long below =
    elim (cases_lt (length xs) a) [
      | inl past ↦ ap (λ l. take s (drop b l)) (put_past xs ys a s past long)
      | inr within ↦ (let rest = ys ++ drop (a + s) xs in
          let front : length (take a xs) ≡ a = length-take-le a xs within in
          let k : a ≡ b + (a - b) = omega arith in
          ap (take s) (drop-append-le b (take a xs) rest (omega arith)) ∙ take-append-le s (drop b (take a xs)) rest (omega (arith, length-drop b (take a xs)))
          ∙ ap (λ m. take s (drop b (take m xs))) k ∙ ap (take s) (drop-take b (a - b) xs) ∙ take-take s (a - b) (drop b xs) (omega arith))
    ]
