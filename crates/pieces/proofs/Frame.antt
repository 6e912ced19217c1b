-- An object's frame: how long it is, and that the object and its length can be read off it again.
use Rattle.std.proofs.Common.{◌≡◌, ℕ, zero, suc, ◌+◌, ◌-◌, ◌*◌, ◌/◌, ◌%◌, ◌<◌, ◌≤◌, List, [], ◌∷◌, ◌++◌, length, take, drop, replicate, sym, refl, ap, ◌∙◌, subst, ap₂, mod-lt, div-add-mod', mul-div_cancel, inl, inr, mul-le-mul_right, suc-mul, arith, lit<}
use native.Mathlib.Nat.{div-div-eq-div-mul}
use Rattle.std.proofs.lemmas.List.{length-append, length-replicate, take_all, take_at, drop_at, drop-drop, take-append-drop, length-take-le, length-drop}
use Rattle.std.proofs.lemmas.Bool.{cases_order}
use Rattle.std.specs.List.{AllByRecursion}
use Rattle.std.proofs.ByRecursion.{All-append}
use Rattle.byte_field.specs.Byte.{IsByte}
use Rattle.elimination.specs.Polynomial.{Bytes}
use Rattle.pieces.specs.Given.{length_in, IsZero, Long, Filled}
use Rattle.pieces.specs.Rows.{MAX, rows_for, framed, length_bytes}

-- The rows hold the length and the bytes, and are not more than they have to be.
pub rows_hold : (need n : ℕ) → 0 < need → (4 + n ≤ rows_for need n * need) × (rows_for need n * need < 4 + n + need)
unfolding rows_for
rows_hold need n h =
    let e = div-add-mod' (4 + n + (need - 1)) need in
    let l = mod-lt (4 + n + (need - 1)) h in
    (omega arith, omega arith)

-- So they are the least multiple that holds them.
pub rows_least : (need n size : ℕ) → 0 < need → size % need ≡ 0 → 4 + n ≤ size → size < 4 + n + need → size ≡ rows_for need n * need
rows_least need n size h whole low high =
    let q = size / need in
    let k = rows_for need n in
    let e : q * need + size % need ≡ size = div-add-mod' size need in
    let fits = rows_hold need n h in
    elim (cases_order q k) [
      | inl same ↦ omega (arith, e, ap (λ j. j * need) same)
      | inr (inl less) ↦ absurd (omega (arith, mul-le-mul_right need less, suc-mul q need, fits.1))
      | inr (inr more) ↦ absurd (omega (arith, mul-le-mul_right need more, suc-mul k need, fits.0))
    ]

pub length_framed : (need : ℕ) (bytes : List ℕ) → 0 < need → length (framed need bytes) ≡ rows_for need (length bytes) * need
unfolding framed
length_framed need bytes h =
    let e = rows_hold need (length bytes) h in
    simp (length-append, length-replicate) (omega (arith, e.0))

-- The length and the object, filled up with zeros to whole rows, are the frame.
pub resized : (need : ℕ) (bytes flat : List ℕ) (size used : ℕ) → flat ≡ length_bytes (length bytes) ++ bytes → used ≡ length flat → size ≡ rows_for need (length bytes) * need
    → 4 + length bytes ≤ size → take size flat ++ replicate (size - used) 0 ≡ framed need bytes
unfolding framed
resized need bytes flat size used is count rows fits =
    let long : length flat ≡ 4 + length bytes = omega (arith, ap length is) in
    ap₂ (λ xs k. xs ++ replicate k 0) (take_all size flat (omega arith) ∙ is) (omega arith)

-- As many rows as make up the frame are those of the object.
pub rows_of : (need : ℕ) (bytes : List ℕ) (rows : ℕ) → 0 < need → rows * need ≡ length (framed need bytes) → rows ≡ rows_for need (length bytes)
rows_of need bytes rows h e =
    sym (mul-div_cancel rows h) ∙ ap (λ k. k / need) (e ∙ length_framed need bytes h) ∙ mul-div_cancel (rows_for need (length bytes)) h

tens : 0 < 256
tens = lit< tt

all_zeros : (n : ℕ) → AllByRecursion IsZero (replicate n 0)
all_zeros zero = tt
all_zeros (suc n) = (refl, all_zeros n)

zeros_bytes : (n : ℕ) → Bytes (replicate n 0)
zeros_bytes zero = tt
zeros_bytes (suc n) = (tens, zeros_bytes n)

-- The length and the object are read off the frame again.
pub length_in_framed : (need : ℕ) (bytes : List ℕ) → length bytes ≤ MAX → length_in (framed need bytes) ≡ length bytes
unfolding framed
length_in_framed need bytes h =
    omega (arith, div-div-eq-div-mul (length bytes) 256 256, div-div-eq-div-mul (length bytes) 256 65536)

pub object_framed : (need : ℕ) (bytes : List ℕ) → take (length bytes) (drop 4 (framed need bytes)) ≡ bytes
unfolding framed
object_framed need bytes = take_at bytes _ (length bytes) refl

pub filled_framed : (need : ℕ) (bytes : List ℕ) → AllByRecursion IsZero (drop (4 + length bytes) (framed need bytes))
unfolding framed
filled_framed need bytes =
    let n = rows_for need (length bytes) * need - (4 + length bytes) in
    subst (AllByRecursion IsZero) (sym (drop_at bytes (replicate n 0) (length bytes) refl) ∙ drop-drop (length bytes) 4 (framed need bytes)) (all_zeros n)

pub framed_bytes : (need : ℕ) (bytes : List ℕ) → Bytes bytes → Bytes (framed need bytes)
unfolding framed
framed_bytes need bytes h =
    let n = length bytes in
    (mod-lt (n / 16777216) tens, (mod-lt (n / 65536) tens, (mod-lt (n / 256) tens, (mod-lt n tens, All-append IsByte bytes _ h (zeros_bytes _)))))

zeros_are : (xs : List ℕ) → AllByRecursion IsZero xs → xs ≡ replicate (length xs) 0
zeros_are [] h = refl
zeros_are (x ∷ xs) h = ap₂ (λ y ys. y ∷ ys) h.0 (zeros_are xs h.1)

-- A frame by the length of its object.
laid : (need n : ℕ) (bytes : List ℕ) → length bytes ≡ n → length_bytes n ++ (bytes ++ replicate (rows_for need n * need - (4 + n)) 0) ≡ framed need bytes
unfolding framed
laid need n bytes e = ap (λ k. length_bytes k ++ (bytes ++ replicate (rows_for need k * need - (4 + k)) 0)) (sym e)

-- What is zeros from the n-th byte on.
rest_laid : (n k : ℕ) (rest : List ℕ) → AllByRecursion IsZero (drop n rest) → length (drop n rest) ≡ k → rest ≡ take n rest ++ replicate k 0
rest_laid n k rest zeros count =
    sym (take-append-drop n rest) ∙ ap (λ t. take n rest ++ t) (zeros_are (drop n rest) zeros ∙ ap (λ j. replicate j 0) count)

-- Four bytes are those of the number that they say.
four_bytes : (a b c d : ℕ) → IsByte a → IsByte b → IsByte c → IsByte d → length_bytes (((a * 256 + b) * 256 + c) * 256 + d) ≡ a ∷ b ∷ c ∷ d ∷ []
four_bytes a b c d ha hb hc hd =
    let e₀ : (((a * 256 + b) * 256 + c) * 256 + d) / 16777216 % 256 ≡ a = omega arith in
    let e₁ : (((a * 256 + b) * 256 + c) * 256 + d) / 65536 % 256 ≡ b = omega arith in
    let e₂ : (((a * 256 + b) * 256 + c) * 256 + d) / 256 % 256 ≡ c = omega arith in
    let e₃ : (((a * 256 + b) * 256 + c) * 256 + d) % 256 ≡ d = omega arith in
    cc

-- Rows that are as many as their length asks have the 4 bytes of that length and the object's.
holds_length : (need : ℕ) (flat : List ℕ) → 0 < need → Long need flat → 4 + length_in flat ≤ length flat
holds_length need flat h long = omega (arith, (rows_hold need (length_in flat) h).0, long.1)

-- What is read off rows has the rows as its frame, where they are as many as they say and zeros stand after the object.
pub framed_again : (need : ℕ) (flat : List ℕ) → 0 < need → Bytes flat → Long need flat → Filled flat → flat ≡ framed need (take (length_in flat) (drop 4 flat))
framed_again need [] h bytes long zeros = absurd (omega (arith, holds_length need [] h long))
framed_again need (a ∷ []) h bytes long zeros = absurd (omega (arith, holds_length need (a ∷ []) h long))
framed_again need (a ∷ b ∷ []) h bytes long zeros = absurd (omega (arith, holds_length need (a ∷ b ∷ []) h long))
framed_again need (a ∷ b ∷ c ∷ []) h bytes long zeros = absurd (omega (arith, holds_length need (a ∷ b ∷ c ∷ []) h long))
framed_again need (a ∷ b ∷ c ∷ d ∷ rest) h bytes long zeros =
    let flat = a ∷ b ∷ c ∷ d ∷ rest in
    let n = length_in flat in
    let within : 4 + n ≤ length flat = holds_length need flat h long in
    let within-rest : n ≤ length rest = omega arith in
    let count : length (drop n rest) ≡ rows_for need n * need - (4 + n) = simp length-drop (omega (arith, long.1)) in
    ap₂ (λ s t. s ++ t) (sym (four_bytes a b c d bytes.0 bytes.1.0 bytes.1.1.0 bytes.1.1.1.0))
    (rest_laid n (rows_for need n * need - (4 + n)) rest (subst (AllByRecursion IsZero) (sym (drop-drop n 4 flat)) zeros) count)
    ∙ laid need n (take n rest) (length-take-le n rest within-rest)
