-- Numbers in bytes, the highest first: written and read again, and read of a front.
use Rattle.std.proofs.Common.{◌≡◌, ℕ, zero, suc, ◌+◌, ◌*◌, ◌/◌, ◌%◌, ◌^◌, ◌<◌, ◌≤◌, List, [], ◌∷◌, ◌++◌, length, get_or, take, drop, sym, refl, ap, ◌∙◌, add-zero, mod-eq_of_lt, mul_assoc, pow-suc, div-one, arith}
use native.Mathlib.Nat.{pow-succ', mod-one}
use lib.Arith.{mod-mul}
use Rattle.std.proofs.lemmas.List.{append_assoc, get_or_at, get_or-take, get_or-drop, length_push}
use Rattle.slots.specs.Layout.{bytes_of, number_at}

-- What `to_be_bytes` gives, at the two widths of a record.
pub bytes8 : (v : ℕ) → (v / 72057594037927936 % 256 ∷ v / 281474976710656 % 256 ∷ v / 1099511627776 % 256 ∷ v / 4294967296 % 256 ∷ v / 16777216 % 256 ∷ v / 65536 % 256 ∷ v / 256 % 256 ∷ v % 256 ∷ []) ≡ bytes_of 8 v
bytes8 v = ap (λ n. v / 72057594037927936 % 256 ∷ v / 281474976710656 % 256 ∷ v / 1099511627776 % 256 ∷ v / 4294967296 % 256 ∷ v / 16777216 % 256 ∷ v / 65536 % 256 ∷ v / 256 % 256 ∷ n % 256 ∷ []) (sym (div-one v))

pub bytes4 : (v : ℕ) → (v / 16777216 % 256 ∷ v / 65536 % 256 ∷ v / 256 % 256 ∷ v % 256 ∷ []) ≡ bytes_of 4 v
bytes4 v = ap (λ n. v / 16777216 % 256 ∷ v / 65536 % 256 ∷ v / 256 % 256 ∷ n % 256 ∷ []) (sym (div-one v))

-- The first byte of a number weighs the most.
pub number_at_first : (bytes : List ℕ) (from k : ℕ) → number_at bytes from (suc k) ≡ get_or bytes from 0 * 256 ^ k + number_at bytes (from + 1) k
number_at_first bytes from zero = let e = ap (λ i. get_or bytes i 0) (add-zero from) in omega arith
number_at_first bytes from (suc k) =
    let above = number_at_first bytes from k in
    let i : from + suc k ≡ (from + 1) + k = omega arith in
    let last = ap (λ j. get_or bytes j 0) i in
    let power = ap (λ p. get_or bytes from 0 * p) (pow-suc 256 k) ∙ sym (mul_assoc (get_or bytes from 0) (256 ^ k) 256) in
    omega arith

-- What was written as so many bytes is read again, as far as it fits.
pub number_at_spelled : (k n m : ℕ) (xs ys : List ℕ) → length xs ≡ m → number_at (xs ++ (bytes_of k n ++ ys)) m k ≡ n % 256 ^ k
number_at_spelled zero n m xs ys e = sym (mod-one n)
number_at_spelled (suc k) n m xs ys e =
    let b = n / 256 ^ k % 256 in
    let zs = bytes_of k n ++ ys in
    let here : get_or (xs ++ (b ∷ zs)) m 0 ≡ b = get_or_at xs b zs 0 m e in
    let longer : length (xs ++ (b ∷ [])) ≡ m + 1 = length_push xs b ∙ ap (λ i. i + 1) e in
    let later : number_at (xs ++ (b ∷ zs)) (m + 1) k ≡ n % 256 ^ k =
    ap (λ l. number_at l (m + 1) k) (sym (append_assoc xs (b ∷ []) zs)) ∙ number_at_spelled k n (m + 1) (xs ++ (b ∷ [])) ys longer in
    number_at_first (xs ++ (b ∷ zs)) m k ∙ ap (λ x. x * 256 ^ k + number_at (xs ++ (b ∷ zs)) (m + 1) k) here ∙ ap (λ x. b * 256 ^ k + x) later
    ∙ sym (ap (λ p. n % p) (pow-succ' 256 k) ∙ mod-mul n {m = 256} {c = 256 ^ k} (omega arith) (power_pos k))
  where
    power_pos : (j : ℕ) → 0 < 256 ^ j
    power_pos zero = omega arith
    power_pos (suc j) = let h = power_pos j in omega (arith, pow-suc 256 j)

pub number_at_whole : (k n m : ℕ) (xs ys : List ℕ) → length xs ≡ m → n < 256 ^ k → number_at (xs ++ (bytes_of k n ++ ys)) m k ≡ n
number_at_whole k n m xs ys e h = number_at_spelled k n m xs ys e ∙ mod-eq_of_lt h

-- A number is read of a front that has its bytes.
pub number_at_take : (k n from : ℕ) (bytes : List ℕ) → from + k ≤ n → number_at (take n bytes) from k ≡ number_at bytes from k
number_at_take zero n from bytes h = refl
number_at_take (suc k) n from bytes h =
    let above = number_at_take k n from bytes (omega arith) in
    let last = get_or-take n bytes (from + k) 0 (omega arith) in omega arith

-- What `from_be_bytes` gives of the four or eight bytes from a place on is the number that they spell.
pub four_at : (bytes four : List ℕ) (n v : ℕ) → four ≡ take 4 (drop n bytes) →
    v ≡ get_or four 0 0 * 16777216 + get_or four 1 0 * 65536 + get_or four 2 0 * 256 + get_or four 3 0 → v ≡ number_at bytes n 4
four_at bytes four n v same e =
    let byte : (k : ℕ) → k < 4 → get_or four k 0 ≡ get_or bytes (n + k) 0 = λ k h.
    ap (λ l. get_or l k 0) same ∙ get_or-take 4 (drop n bytes) k 0 h ∙ get_or-drop n bytes k 0 in
    omega (arith, byte 0 (omega arith), byte 1 (omega arith), byte 2 (omega arith), byte 3 (omega arith))

pub eight_at : (bytes eight : List ℕ) (n v : ℕ) → eight ≡ take 8 (drop n bytes) →
    v ≡ get_or eight 0 0 * 72057594037927936 + get_or eight 1 0 * 281474976710656 + get_or eight 2 0 * 1099511627776 + get_or eight 3 0 * 4294967296
    + get_or eight 4 0 * 16777216 + get_or eight 5 0 * 65536 + get_or eight 6 0 * 256 + get_or eight 7 0 → v ≡ number_at bytes n 8
eight_at bytes eight n v same e =
    let byte : (k : ℕ) → k < 8 → get_or eight k 0 ≡ get_or bytes (n + k) 0 = λ k h.
    ap (λ l. get_or l k 0) same ∙ get_or-take 8 (drop n bytes) k 0 h ∙ get_or-drop n bytes k 0 in
    omega (arith, byte 0 (omega arith), byte 1 (omega arith), byte 2 (omega arith), byte 3 (omega arith), byte 4 (omega arith), byte 5 (omega arith), byte 6 (omega arith), byte 7 (omega arith))
