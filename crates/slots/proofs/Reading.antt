-- What decides that a slot's bytes read as nothing, or as a piece.
use Rattle.std.proofs.Common.{◌≡◌, ℕ, ◌+◌, ◌*◌, ◌≤◌, true, List, length, get_or, take, drop, ap, ◌∙◌, inl, inr, arith}
use Rattle.std.proofs.lemmas.Bool.{cases_Bool, both_ways}
use Rattle.std.proofs.lemmas.Bool.Decides.{nat_tests}
use Rattle.slots.proofs.Numbers.{four_at}
use Rattle.slots.specs.Adler.{adler}
use Rattle.slots.specs.Layout.{slot_size, around, number_at}
use Rattle.slots.specs.Slot.{empty, holds, fits, read_slot, version_in, length_in, sum_in}

-- All that a record asks.
pub record Fits (o d : ℕ) (bytes : List ℕ) : Type 0 where
  pub whole : around + length_in bytes ≤ length bytes
  pub room : around + length_in bytes ≤ slot_size
  pub kind : get_or bytes 0 0 ≡ 87
  pub object : get_or bytes 1 0 ≡ o
  pub drive : get_or bytes 2 0 ≡ d
  pub sum : sum_in bytes ≡ adler (take (15 + length_in bytes) bytes)

pub fits_true : (o d : ℕ) (bytes : List ℕ) → Fits o d bytes → fits o d bytes ≡ true
unfolding fits
fits_true o d bytes h = grind (arith, nat_tests)

pub fits_since : (o d : ℕ) (bytes : List ℕ) → fits o d bytes ≡ true → Fits o d bytes
unfolding fits
fits_since o d bytes h = grind (arith, nat_tests)

-- Bytes that don't fit read as nothing.
pub misfit : (o d : ℕ) (bytes : List ℕ) → (Fits o d bytes → ⊥) → empty ≡ read_slot o d bytes
unfolding read_slot
misfit o d bytes never = let fitting = fits_since o d bytes in grind (arith, nat_tests)

-- And bytes that fit as the piece that they name.
pub fit : (o d : ℕ) (bytes : List ℕ) → Fits o d bytes → holds (version_in bytes) (take (length_in bytes) (drop 15 bytes)) ≡ read_slot o d bytes
unfolding read_slot
fit o d bytes h = let fitting = fits_true o d bytes h in grind (arith, nat_tests)

-- What reads as a piece fits, and is the piece that it names.
pub fits_from : (o d v : ℕ) (p bytes : List ℕ) → read_slot o d bytes ≡ holds v p → Fits o d bytes × (v ≡ version_in bytes) × (p ≡ take (length_in bytes) (drop 15 bytes))
fits_from o d v p bytes e =
    elim (cases_Bool (fits o d bytes)) [
      | inl t ↦ (let f = fits_since o d bytes t in let g = fit o d bytes f in (f, (cc), (cc)))
      | inr f ↦ (let g : empty ≡ read_slot o d bytes = misfit o d bytes (λ h. both_ways (fits o d bytes) f (fits_true o d bytes h)) in
          cc)
    ]

-- The number that the four bytes behind the first `n` spell is the record's sum.
pub sum_behind : (bytes four : List ℕ) (n sum : ℕ) → n ≡ 15 + length_in bytes → four ≡ take 4 (drop n bytes) →
    sum ≡ get_or four 0 0 * 16777216 + get_or four 1 0 * 65536 + get_or four 2 0 * 256 + get_or four 3 0 → sum ≡ sum_in bytes
sum_behind bytes four n sum en ef es = four_at bytes four n sum ef es ∙ ap (λ m. number_at bytes m 4) en
