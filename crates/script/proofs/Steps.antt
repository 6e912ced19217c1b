-- What one turn of a loop over digits keeps, and that hexadecimal digits read as what they were written of.
use Rattle.std.proofs.Common.{◌≡◌, ℕ, ◌+◌, ◌-◌, ◌*◌, ◌/◌, ◌%◌, ◌^◌, ◌<◌, ◌≤◌, min, true, cond, ◌&&◌, eqb, leb, List, [], ◌∷◌, ◌++◌, length, get_or, slice_index, drop, Some, None, Ok, Err, Result, sym, refl, ap, ◌∙◌, ⊎_elim, append_assoc, arith}
use Rattle.std.proofs.lemmas.List.{at_drop_more}
use Rattle.std.proofs.lemmas.Bool.{agree_below_at, cases_lt, eqb-true, lt-ltb, le-ltb, le-leb, lt-leb}
use Rattle.std.specs.List.{AllByRecursion}
use Rattle.hex.specs.Hex.{encode_lower, encode_with, lower_digits}
use Rattle.script.specs.declared.error.LineError.{LineError}
use Rattle.script.specs.Digits.{decimal, nibble, byte_of, before, from_hex, symbol, to_hex}

-- bytes that were read, before those that are still to come
abbrev pub onto : List ℕ → Result (List ℕ) LineError → Result (List ℕ) LineError
onto xs (Ok bs) = Ok (xs ++ bs)
onto xs (Err e) = Err e

pub onto_before : (xs : List ℕ) (x : ℕ) (r : Result (List ℕ) LineError) → onto (xs ++ x ∷ []) r ≡ onto xs (before (Some x) r)
onto_before xs x (Ok bs) = ap Ok (append_assoc xs (x ∷ []) bs)
onto_before xs x (Err e) = refl

-- past the largest number, every number reads alike
pub capped : (a b : ℕ) → 2 ^ 64 - 1 ≤ a → 2 ^ 64 - 1 ≤ b → (ds : List ℕ) → decimal a ds ≡ decimal b ds
capped a b ha hb [] = ap Some (omega arith)
capped a b ha hb (d ∷ ds) = ap (λ r. cond (leb 48 d && leb d 57) r None) (capped (a * 10 + (d - 48)) (b * 10 + (d - 48)) (omega arith) (omega arith) ds)

pub saturated : (n d : ℕ) (ds : List ℕ) → decimal (min (min (n * 10) (2 ^ 64 - 1) + d) (2 ^ 64 - 1)) ds ≡ decimal (n * 10 + d) ds
saturated n d ds =
    ⊎_elim
    (λ low. ap (λ m. decimal m ds) (omega arith))
    (λ high. capped _ _ (omega arith) (omega arith) ds)
    (cases_lt (n * 10 + d) (2 ^ 64 - 1))

-- the library's digits, of which antt computes the sixteen
library_digit : (x : ℕ) → x < 16 → slice_index lower_digits x ≡ symbol x
library_digit x h = eqb-true (slice_index lower_digits x) (symbol x) (agree_below_at (λ n. eqb (slice_index lower_digits n) (symbol n)) (λ n. true) 16 x refl h)

-- hexadecimal digits as the library writes them
pub library_hex : (xs : List ℕ) → AllByRecursion (λ b. b < 256) xs → encode_lower xs ≡ to_hex xs
unfolding encode_with
library_hex [] h = refl
library_hex (x ∷ xs) (h, hs) = rw (library_digit (x / 16) (omega arith), library_digit (x % 16) (omega arith), library_hex xs hs) refl

module _ (n i : ℕ) (s : List ℕ) (inside : i < length s) where
  pub number_step : (leb 48 (get_or s i 0) && leb (get_or s i 0) 57) ≡ true → decimal (min (min (n * 10) (2 ^ 64 - 1) + (get_or s i 0 - 48)) (2 ^ 64 - 1)) (drop (i + 1) s) ≡ decimal n (drop i s)
  number_step e = saturated n (get_or s i 0 - 48) (drop (i + 1) s) ∙ sym (at_drop_more (decimal n) s i 0 inside ∙ ap (λ t. cond t (decimal (n * 10 + (get_or s i 0 - 48)) (drop (i + 1) s)) None) e)

-- one more pair of digits
pub pair_step : (xs : List ℕ) (x : ℕ) (s : List ℕ) → 2 ≤ length s → byte_of (nibble (get_or s 0 0)) (nibble (get_or s 1 0)) ≡ Some x → onto (xs ++ x ∷ []) (from_hex (drop 2 s)) ≡ onto xs (from_hex s)
pair_step xs x [] h e = absurd (omega arith)
pair_step xs x (a ∷ []) h e = absurd (omega arith)
pair_step xs x (a ∷ b ∷ ds) h e = onto_before xs x (from_hex ds) ∙ ap (λ o. onto xs (before o (from_hex ds))) (sym e)

digit_back : (x : ℕ) → x < 16 → nibble (symbol x) ≡ Some x
digit_back x h =
    ⊎_elim
    (λ low. rw (lt-ltb x 10 low, le-leb 48 (48 + x) (omega arith), le-leb (48 + x) 57 (omega arith)) (ap Some (omega arith)))
    (λ high. rw (le-ltb x 10 high, le-leb 48 (97 + (x - 10)) (omega arith), lt-leb (97 + (x - 10)) 57 (omega arith), le-leb 97 (97 + (x - 10)) (omega arith), le-leb (97 + (x - 10)) 102 (omega arith)) (ap Some (omega arith)))
    (cases_lt x 10)

-- what was written in hexadecimal reads as what it was written of
pub reads_back : (xs : List ℕ) → AllByRecursion (λ b. b < 256) xs → from_hex (to_hex xs) ≡ Ok xs
reads_back [] h = refl
reads_back (x ∷ xs) (h, hs) =
    rw (digit_back (x / 16) (omega arith), digit_back (x % 16) (omega arith), reads_back xs hs) (ap (λ b. Ok (b ∷ xs)) (omega arith))
