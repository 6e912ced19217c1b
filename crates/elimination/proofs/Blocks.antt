-- Blocks of one length, one after the other: where each stands, and that they make up the list.
use Rattle.std.proofs.Common.{◌≡◌, ℕ, zero, suc, ◌+◌, ◌-◌, ◌*◌, ◌/◌, ◌%◌, ◌<◌, ◌≤◌, List, [], ◌∷◌, ◌++◌, map, length, get_or, take, drop, sym, ap, ap₂, ◌∙◌, inl, inr, mul-le-mul_right, suc-mul, div-add-mod', zero-mul, add-one, arith}
use Rattle.std.specs.List.{range_with_len, AllByRecursion}
use Rattle.std.proofs.lemmas.List.{length-append, take-append-le, drop-append-le, drop_at, take_all, get_or-take, get_or-drop, ext_get_or, length-drop, append_assoc}
use Rattle.std.proofs.lemmas.List.FromFn.{map-range_with_len_more}
use Rattle.std.proofs.ByRecursion.{All-append}
use Rattle.std.proofs.lemmas.Nat.{div_below, mod_below}
use Rattle.std.proofs.lemmas.Bool.{cases_lt}
use Rattle.elimination.specs.Matrix.{blocks, column}

module _ (f : ℕ → List ℕ) (w : ℕ) where
  pub length_blocks : (n : ℕ) → ((i : ℕ) → i < n → length (f i) ≡ w) → length (blocks f n) ≡ n * w
  unfolding blocks
  length_blocks zero each = sym (zero-mul w)
  length_blocks (suc n) each =
      let more : length (blocks f n) ≡ n * w = length_blocks n (λ i h. each i (omega arith)) in
      let last : length (f n) ≡ w = each n (omega arith) in
      let both : length (blocks f n ++ f n) ≡ length (blocks f n) + length (f n) = length-append (blocks f n) (f n) in
      omega (arith, suc-mul n w)

  -- The block that stands at its place.
  pub block_at : (n i : ℕ) → ((i : ℕ) → i < n → length (f i) ≡ w) → i < n → take w (drop (i * w) (blocks f n)) ≡ f i
  unfolding blocks
  block_at zero i each h = absurd (omega arith)
  block_at (suc n) i each h =
      let each' : (i : ℕ) → i < n → length (f i) ≡ w = λ j l. each j (omega arith) in
      let long : length (blocks f n) ≡ n * w = length_blocks n each' in
      elim (cases_lt i n) [
        | inl l ↦
            let inside : suc i * w ≤ n * w = mul-le-mul_right w l in
            let next : suc i * w ≡ i * w + w = suc-mul i w in
            let drops : drop (i * w) (blocks f n ++ f n) ≡ drop (i * w) (blocks f n) ++ f n = drop-append-le (i * w) (blocks f n) (f n) (omega arith) in
            let left : length (drop (i * w) (blocks f n)) ≡ length (blocks f n) - i * w = length-drop (i * w) (blocks f n) in
            ap (take w) drops ∙ take-append-le w (drop (i * w) (blocks f n)) (f n) (omega arith) ∙ block_at n i each' l
        | inr l ↦
            let same : i ≡ n = omega arith in
            let drops : drop (n * w) (blocks f n ++ f n) ≡ f n = drop_at (blocks f n) (f n) (n * w) long in
            let last : length (f n) ≡ w = each n (omega arith) in
            ap (λ (j : ℕ). take w (drop (j * w) (blocks f n ++ f n))) same ∙ ap (take w) drops ∙ take_all w (f n) (omega arith) ∙ ap f (sym same)
      ]

  pub get_or_blocks : (n i t : ℕ) → ((i : ℕ) → i < n → length (f i) ≡ w) → i < n → t < w → get_or (blocks f n) (i * w + t) 0 ≡ get_or (f i) t 0
  get_or_blocks n i t each h l =
      sym (get_or-drop (i * w) (blocks f n) t 0) ∙ sym (get_or-take w (drop (i * w) (blocks f n)) t 0 l)
      ∙ ap (λ (xs : List ℕ). get_or xs t 0) (block_at n i each h)

pub all_blocks : (P : ℕ → Type 0) (f : ℕ → List ℕ) (n : ℕ) → ((i : ℕ) → AllByRecursion P (f i)) → AllByRecursion P (blocks f n)
unfolding blocks
all_blocks P f zero h = tt
all_blocks P f (suc n) h = All-append P (blocks f n) (f n) (all_blocks P f n h) (h n)

-- Lists with the same blocks are the same.
pub same_blocks :
    (w n : ℕ) (v u : List ℕ) → 0 < w → length v ≡ n * w → length u ≡ n * w → ((r : ℕ) → r < n → take w (drop (r * w) v) ≡ take w (drop (r * w) u)) →
    v ≡ u
same_blocks w n v u hw lv lu same = ext_get_or 0 v u (lv ∙ sym lu) at
  where
    block : (xs : List ℕ) (i : ℕ) → get_or xs i 0 ≡ get_or (take w (drop (i / w * w) xs)) (i % w) 0
    block xs i =
        ap (λ (j : ℕ). get_or xs j 0) (sym (div-add-mod' i w)) ∙ sym (get_or-drop (i / w * w) xs (i % w) 0)
        ∙ sym (get_or-take w (drop (i / w * w) xs) (i % w) 0 (mod_below i w hw))

    at : (i : ℕ) → i < length v → get_or v i 0 ≡ get_or u i 0
    at i h =
        block v i ∙ ap (λ (xs : List ℕ). get_or xs (i % w) 0) (same (i / w) (div_below i w n hw (omega arith))) ∙ sym (block u i)

-- One block more, and in a block one element more: what a loop that pushes adds.
pub blocks_more : (f : ℕ → List ℕ) (n : ℕ) → blocks f n ++ f n ≡ blocks f (n + 1)
unfolding blocks
blocks_more f n = rw add-one

pub counted_more : (s : List ℕ) (f : ℕ → ℕ) (t : ℕ) → (s ++ map f (range_with_len 0 t)) ++ f t ∷ [] ≡ s ++ map f (range_with_len 0 (t + 1))
counted_more s f t = append_assoc s (map f (range_with_len 0 t)) (f t ∷ []) ∙ ap (λ (l : List ℕ). s ++ l) (sym (map-range_with_len_more f 0 t t (omega arith)))

-- One of the columns past the first k more, where the columns are counted from the first of all.
pub columns_more : (k w c : ℕ) (m : List ℕ) → k ≤ c → c < w → let f : ℕ → List ℕ = λ r. column k (k + (w - k)) m (k + r) in blocks f (c - k) ++ column k w m c ≡ blocks f (c + 1 - k)
columns_more k w c m low high =
    let f : ℕ → List ℕ = λ r. column k (k + (w - k)) m (k + r) in
    let wide : w ≡ k + (w - k) = omega arith in
    let place : c ≡ k + (c - k) = omega arith in
    let next : c - k + 1 ≡ c + 1 - k = omega arith in
    ap₂ (λ n t. blocks f (c - k) ++ column k n m t) wide place ∙ blocks_more f (c - k) ∙ ap (blocks f) next
