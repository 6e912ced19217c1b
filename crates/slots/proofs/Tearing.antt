-- The run by which a torn slot is completed by a later torn writing.
use Rattle.std.proofs.Common.{◌≡◌, ℕ, zero, suc, ◌⊎◌, List, [], ◌∷◌, get_or, refl, inl, inr}
use Rattle.slots.specs.Adler.{sums, adler}
use Rattle.slots.specs.Layout.{record_of}
use Rattle.slots.specs.Slot.{fits, read_slot}
use Rattle.slots.specs.Laws.{TornTwice}

-- All bytes but the first of the record of version 1025.
abbrev tail : List ℕ
tail = 0 ∷ 0 ∷ 0 ∷ 0 ∷ 0 ∷ 0 ∷ 0 ∷ 0 ∷ 4 ∷ 1 ∷ 0 ∷ 0 ∷ 0 ∷ 1 ∷ 7 ∷ 5 ∷ 171 ∷ 0 ∷ 101 ∷ []

-- Lists that differ in their first byte alone.
but_first : (x y : ℕ) (xs zs : List ℕ) (k : ℕ) → (get_or (x ∷ xs) k 0 ≡ get_or (x ∷ zs) k 0) ⊎ (get_or (x ∷ xs) k 0 ≡ get_or (y ∷ xs) k 0)
but_first x y xs zs zero = inl refl
but_first x y xs zs (suc k) = inr refl

first_only : (x y : ℕ) (xs zs : List ℕ) (k : ℕ) → (get_or (y ∷ xs) k 0 ≡ get_or (x ∷ xs) k 0) ⊎ (get_or (y ∷ xs) k 0 ≡ get_or (y ∷ zs) k 0)
first_only x y xs zs zero = inr refl
first_only x y xs zs (suc k) = inl refl

pub torn_twice : TornTwice
unfolding sums adler record_of fits read_slot
torn_twice = record {
  first = 0 ∷ tail;
  second = 87 ∷ tail;
  torn = record { as_old = refl; as_new = refl; each = but_first 0 87 tail (0 ∷ 0 ∷ 0 ∷ 0 ∷ 0 ∷ 0 ∷ 0 ∷ 0 ∷ 0 ∷ 0 ∷ 0 ∷ 0 ∷ 0 ∷ 0 ∷ 0 ∷ 0 ∷ 0 ∷ 0 ∷ 0 ∷ []) };
  lost = refl;
  again = record { as_old = refl; as_new = refl; each = first_only 0 87 tail (lib.ListN.drop 1 (record_of 0 0 2049 (7 ∷ []))) };
  back = refl;
}
