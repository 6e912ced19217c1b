-- The laws of a drive's slots.
use Rattle.std.proofs.Common.{◌≡◌, ℕ, ◌+◌, ◌-◌, ◌*◌, min, List, ◌++◌, length, take, drop, sym, ap, ◌∙◌, inl, inr, arith}
use Rattle.std.proofs.lemmas.List.{take-append-drop, drop-drop}
use Rattle.std.proofs.lemmas.Bool.{cases_order}
use Rattle.slots.specs.Layout.{slot_size}
use Rattle.drives.specs.Place.{slot_from, slot_at, with_slot}
use Rattle.drives.specs.Laws.{SlotStands, OthersStand, LengthStands, Apart}
use Rattle.drives.proofs.Parting.{part_cut, put_cut, put_long, put_stands, put_above, put_below}

pub slot_stands : SlotStands
unfolding slot_at with_slot
slot_stands bytes slot o k long = put_stands bytes slot (slot_from o k) slot_size long

pub length_stands : LengthStands
unfolding slot_at with_slot
length_stands bytes slot o k long = put_long bytes slot (slot_from o k) slot_size long

pub others_stand : OthersStand
unfolding slot_at with_slot
others_stand bytes slot o k o' k' h h' long apart =
    elim (cases_order (o * 4 + k) (o' * 4 + k')) [
      | inl one ↦ (let eo : o ≡ o' = omega arith in let ek : k ≡ k' = omega arith in absurd (apart (eo, ek)))
      | inr two ↦ elim two [
        | inl below ↦ ap (take slot_size) (put_above bytes slot (slot_from o k) (slot_from o' k') slot_size long (omega arith))
        | inr above ↦ put_below bytes slot (slot_from o k) (slot_from o' k') slot_size long (omega arith)
      ]
    ]

pub laws : Apart
laws = record { stands = slot_stands; others = others_stand; long = length_stands }

-- A slot put back as it was changes nothing.
pub slot_same : (bytes : List ℕ) (o k : ℕ) → with_slot bytes o k (slot_at bytes o k) ≡ bytes
unfolding slot_at with_slot
slot_same bytes o k =
    let a = slot_from o k in
    ap (λ l. take a bytes ++ (take slot_size (drop a bytes) ++ l)) (sym (drop-drop slot_size a bytes)) ∙ ap (λ l. take a bytes ++ l) (take-append-drop slot_size (drop a bytes)) ∙ take-append-drop a bytes

-- A slot's part of a drive, and the drive with that part written, as the code cuts it.
pub slot_cut : (bytes : List ℕ) (o k from to : ℕ) → from ≡ min (slot_from o k) (length bytes) → to ≡ min (slot_from o k + slot_size) (length bytes) →
    take (to - from) (drop from bytes) ≡ slot_at bytes o k
unfolding slot_at
slot_cut bytes o k from to e f = part_cut bytes (slot_from o k) slot_size from to e f

pub slot_put : (bytes last new : List ℕ) (o k from to : ℕ) → from ≡ min (slot_from o k) (length bytes) → to ≡ min (slot_from o k + slot_size) (length bytes) → last ≡ new →
    take from bytes ++ (last ++ drop (to - from) (drop from bytes)) ≡ with_slot bytes o k new
unfolding with_slot
slot_put bytes last new o k from to e f same =
    ap (λ l. take from bytes ++ (l ++ drop (to - from) (drop from bytes))) same ∙ put_cut bytes new (slot_from o k) slot_size from to e f
