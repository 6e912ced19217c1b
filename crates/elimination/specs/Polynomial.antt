-- Polynomials over bytes, as lists of coefficients, and the theorem that their values at enough points determine them.
-- Assumes nothing.
use Rattle.std.specs.Prelude.{◌≡◌, ℕ, ◌≤◌, List, [], ◌∷◌, length}
use mathlib.Core.List.{Memᴰ}
use Rattle.std.specs.List.{AllByRecursion}
use Rattle.byte_field.specs.Byte.{add, mul, IsByte}

-- The value at x of the polynomial with these coefficients, that of x to the 0 first.
unfoldable pub value : List ℕ → ℕ → ℕ
value [] x = 0
value (c ∷ cs) x = add c (mul x (value cs x))

-- All elements are bytes.
abbrev pub Bytes : List ℕ → Type 0
Bytes xs = AllByRecursion IsByte xs

-- No element stands twice.
abbrev pub Distinct : List ℕ → Type 0
Distinct [] = Unit {0}
Distinct (x ∷ xs) = (Memᴰ x xs → ⊥) × Distinct xs

-- Polynomials with so many coefficients are determined by their values at so many different points.
abbrev pub Determined : Type 0
Determined =
    (cs ds xs : List ℕ) → Bytes cs → Bytes ds → Bytes xs → Distinct xs → length cs ≡ length ds → length cs ≤ length xs →
    ((x : ℕ) → Memᴰ x xs → value cs x ≡ value ds x) → cs ≡ ds
