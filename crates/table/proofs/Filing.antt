-- The keeper's file: written number by number, and read again.
use Rattle.std.proofs.Common.{◌≡◌, ℕ, zero, suc, ◌+◌, ◌*◌, ◌^◌, ◌<◌, ◌≤◌, true, false, List, [], ◌∷◌, ◌++◌, length, get_or, take, drop, Some, None, inl, inr, sym, refl, ap, ◌∙◌, add-one, arith}
use Rattle.std.proofs.ByRecursion.{All-get_or}
use Rattle.std.proofs.lemmas.List.{append_assoc, append-nil, length-append, take-append-drop, take_at, take_more, take_all, drop_more, drop_all, drop-drop, length-take-le}
use Rattle.std.proofs.lemmas.Bool.{cases_Bool, cond-true}
use Rattle.std.proofs.lemmas.Bool.Decides.{nat_tests}
use Rattle.std.specs.List.{AllByRecursion}
use Rattle.std.specs.Simd.{first_chunks}
use Rattle.slots.proofs.Adding.{adler_lt}
use Rattle.slots.proofs.Numbers.{number_at_whole}
use Rattle.slots.specs.Adler.{adler}
use Rattle.slots.specs.Layout.{bytes_of, number_at}
use Rattle.table.specs.File.{spelled, page_of, file_of, bars_in, is_file, FileReads}

-- A loop that writes numbers one behind the other: what was written, and then what is left, is all.
pub page_none : (number : ℕ) (bars new word : List ℕ) → new ≡ word → word ≡ bytes_of 8 number → new ++ spelled bars ≡ page_of number bars
unfolding spelled
page_none number bars new word e w = ap (λ l. l ++ spelled bars) (e ∙ w)

module _ (bars : List ℕ) (i : ℕ) (old : List ℕ) (all : List ℕ) (inv : old ++ spelled (drop i bars) ≡ all) where
  pub page_more : (new word : List ℕ) → i < length bars → new ≡ old ++ word → word ≡ bytes_of 8 (get_or bars i 0) → new ++ spelled (drop (i + 1) bars) ≡ all
  unfolding spelled
  page_more new word h e w =
      let left = spelled (drop (i + 1) bars) in
      ap (λ l. l ++ left) e ∙ append_assoc old word left ∙ ap (λ x. old ++ (x ++ left)) w ∙ sym (ap (λ l. old ++ spelled l) (drop_more bars i 0 h)) ∙ inv

  pub page_end : length bars ≤ i → old ≡ all
  unfolding spelled
  page_end h = sym (append-nil old) ∙ sym (ap (λ l. old ++ spelled l) (drop_all i bars h)) ∙ inv

-- The sum behind them makes the file.
pub file_made : (number : ℕ) (bars page tail items : List ℕ) (sum : ℕ) → page ≡ page_of number bars → sum ≡ adler page → tail ≡ bytes_of 4 sum → items ≡ page ++ tail → items ≡ file_of number bars
unfolding file_of
file_made number bars page tail items sum ep es et e =
    e ∙ ap (λ p. p ++ tail) ep ∙ ap (λ t. page_of number bars ++ t) (et ∙ ap (λ s. bytes_of 4 s) (es ∙ ap adler ep))

-- What decides that bytes are a file.
pub is_file_true : (bytes : List ℕ) → length bytes ≡ 2060 → number_at bytes 2056 4 ≡ adler (take 2056 bytes) → is_file bytes ≡ true
is_file_true bytes h e = grind (arith, nat_tests)

pub is_file_not : (bytes : List ℕ) → (number_at bytes 2056 4 ≡ adler (take 2056 bytes) → ⊥) → is_file bytes ≡ false
is_file_not bytes never =
    elim (cases_Bool (is_file bytes)) [
      | inl t ↦ (let e : number_at bytes 2056 4 ≡ adler (take 2056 bytes) = grind (arith, nat_tests) in absurd (never e))
      | inr f ↦ f
    ]

-- The chunks of a slice are its parts.
pub chunk_at : (count k : ℕ) (xs : List ℕ) (d : List ℕ) → k < count → get_or (first_chunks 8 count xs) k d ≡ take 8 (drop (k * 8) xs)
chunk_at zero k xs d h = absurd (omega arith)
chunk_at (suc c) zero xs d h = refl
chunk_at (suc c) (suc k) xs d h =
    chunk_at c k (drop 8 xs) d (omega arith) ∙ ap (take 8) (drop-drop (k * 8) 8 xs) ∙ ap (λ n. take 8 (drop n xs)) (let n : 8 + k * 8 ≡ suc k * 8 = omega arith in n)

-- A loop that reads the bars.
pub bars_none : (bytes : List ℕ) → bars_in 0 bytes ≡ []
unfolding bars_in
bars_none bytes = refl

pub bars_more : (k : ℕ) (bytes : List ℕ) → bars_in (k + 1) bytes ≡ bars_in k bytes ++ (number_at bytes (8 + k * 8) 8 ∷ [])
unfolding bars_in
bars_more k bytes = ap (λ n. bars_in n bytes) (add-one k)

-- What is written is as long as its numbers, and parts where they do.
pub length_spelled : (xs : List ℕ) → length (spelled xs) ≡ length xs * 8
unfolding spelled
length_spelled [] = refl
length_spelled (x ∷ xs) = let e = length-append (bytes_of 8 x) (spelled xs) in let h = length_spelled xs in omega arith

pub spelled_append : (xs ys : List ℕ) → spelled (xs ++ ys) ≡ spelled xs ++ spelled ys
unfolding spelled
spelled_append [] ys = refl
spelled_append (x ∷ xs) ys = ap (λ l. bytes_of 8 x ++ l) (spelled_append xs ys) ∙ sym (append_assoc (bytes_of 8 x) (spelled xs) (spelled ys))

spelled_split : (xs : List ℕ) (k : ℕ) → k < length xs → spelled xs ≡ spelled (take k xs) ++ (bytes_of 8 (get_or xs k 0) ++ spelled (drop (k + 1) xs))
unfolding spelled
spelled_split xs k h =
    sym (ap spelled (take-append-drop k xs)) ∙ spelled_append (take k xs) (drop k xs) ∙ ap (λ l. spelled (take k xs) ++ spelled l) (drop_more xs k 0 h)

-- Each number is read at its place.
pub word_read : (xs ys : List ℕ) (k : ℕ) → k < length xs → AllByRecursion (λ x. x < 2 ^ 64) xs → number_at (spelled xs ++ ys) (k * 8) 8 ≡ get_or xs k 0
word_read xs ys k h small =
    let front = spelled (take k xs) in
    let word = bytes_of 8 (get_or xs k 0) in
    let back = spelled (drop (k + 1) xs) in
    let whole : spelled xs ++ ys ≡ front ++ (word ++ (back ++ ys)) =
    ap (λ l. l ++ ys) (spelled_split xs k h) ∙ append_assoc front (word ++ back) ys ∙ ap (λ l. front ++ l) (append_assoc word back ys) in
    let long : length front ≡ k * 8 = length_spelled (take k xs) ∙ ap (λ n. n * 8) (length-take-le k xs (omega arith)) in
    ap (λ l. number_at l (k * 8) 8) whole ∙ number_at_whole 8 (get_or xs k 0) (k * 8) front (back ++ ys) long (All-get_or (λ x. x < 2 ^ 64) xs k 0 h small)

pub bars_read : (number : ℕ) (bars ys : List ℕ) (k : ℕ) → k ≤ length bars → AllByRecursion (λ x. x < 2 ^ 64) (number ∷ bars) → bars_in k (page_of number bars ++ ys) ≡ take k bars
unfolding bars_in
bars_read number bars ys zero h small = refl
bars_read number bars ys (suc k) h small =
    let all = number ∷ bars in
    let place : 8 + k * 8 ≡ suc k * 8 = omega arith in
    let here : number_at (spelled all ++ ys) (8 + k * 8) 8 ≡ get_or bars k 0 =
    ap (λ n. number_at (spelled all ++ ys) n 8) place ∙ word_read all ys (suc k) (omega arith) small in
    let below = bars_read number bars ys k (omega arith) small in
    let one = ap (λ n. take n bars) (sym (add-one k)) in
    ap (λ l. l ++ (number_at (spelled all ++ ys) (8 + k * 8) 8 ∷ [])) below ∙ ap (λ b. take k bars ++ (b ∷ [])) here ∙ sym (take_more bars k 0 (omega arith)) ∙ sym one

-- What is read of a written file is what was written.
pub file_reads : FileReads
unfolding file_of
file_reads number bars n small many =
    let all = number ∷ bars in
    let page = spelled all in
    let tail = bytes_of 4 (adler page) in
    let bytes = page ++ tail in
    let fits : AllByRecursion (λ x. x < 2 ^ 64) all = (n, small) in
    let long : length page ≡ 2056 = length_spelled all ∙ ap (λ k. suc k * 8) many in
    let whole : length bytes ≡ 2060 = length-append page tail ∙ omega arith in
    let sum : number_at bytes 2056 4 ≡ adler page = number_at_whole 4 (adler page) 2056 page [] long (adler_lt page) in
    let front : take 2056 bytes ≡ page = take_at page tail 2056 long in
    let right : is_file bytes ≡ true =
    is_file_true bytes whole (sum ∙ sym (ap adler front)) in
    let first : number_at bytes 0 8 ≡ number = word_read all tail 0 (omega arith) fits in
    let bars-are : bars_in 256 bytes ≡ bars = bars_read number bars tail 256 (omega arith) fits ∙ take_all 256 bars (omega arith) in
    cond-true (is_file bytes) (Some (number_at bytes 0 8, bars_in 256 bytes)) None right
    ∙ ap (λ m. Some (m, bars_in 256 bytes)) first ∙ ap (λ bs. Some (number, bs)) bars-are
