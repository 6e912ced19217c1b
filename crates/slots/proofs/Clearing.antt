-- A slot whose piece was taken away.
use Rattle.std.proofs.Common.{◌≡◌, ℕ, ◌+◌, ◌≤◌, List, ◌++◌, length, take, drop, replicate, sym, ap, ◌∙◌, arith}
use Rattle.std.proofs.lemmas.Grind.{common_steps}
use Rattle.std.proofs.lemmas.List.{length-drop, length-take-le}
use Rattle.slots.specs.Layout.{around}
use Rattle.slots.specs.Slot.{empty, holds, read_slot, record_length, cleared, length_in}
use Rattle.slots.proofs.Reading.{fits_from}

-- The record of what a slot holds lies within the slot.
pub held_within : (o d v : ℕ) (p bytes : List ℕ) → holds v p ≡ read_slot o d bytes → around + length p ≤ length bytes
held_within o d v p bytes e =
    let f = fits_from o d v p bytes (sym e) in
    let w = f.0.whole in
    let long = ap length f.2 ∙ length-take-le (length_in bytes) (drop 15 bytes) (omega (arith, length-drop 15 bytes)) in
    omega arith

-- Clearing what holds nothing changes nothing; else zeros stand over the record.
pub cleared_none : (o d : ℕ) (bytes : List ℕ) → empty ≡ read_slot o d bytes → bytes ≡ cleared o d bytes
unfolding cleared
cleared_none o d bytes e = ap (λ r. replicate (record_length r) 0 ++ drop (record_length r) bytes) e

pub cleared_held : (o d v : ℕ) (p bytes : List ℕ) → holds v p ≡ read_slot o d bytes → replicate (around + length p) 0 ++ drop (around + length p) bytes ≡ cleared o d bytes
unfolding cleared
cleared_held o d v p bytes e = ap (λ r. replicate (record_length r) 0 ++ drop (record_length r) bytes) e

-- The same as the code fills it: `n` bytes from the front on.
pub cleared_filled : (o d v n : ℕ) (p bytes filled : List ℕ) → holds v p ≡ read_slot o d bytes → n ≡ around + length p → filled ≡ replicate (length (take n bytes)) 0 →
    filled ++ drop n bytes ≡ cleared o d bytes
cleared_filled o d v n p bytes filled e long f = let within = held_within o d v p bytes e in let held = cleared_held o d v p bytes e in grind (arith, common_steps)
