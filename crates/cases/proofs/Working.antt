-- What two pieces of a content work out to.
-- Assumes nothing.
use Rattle.std.proofs.Common.{◌≡◌, ℕ, ◌<◌, ◌≤◌, T, ltb, leb, List, [], ◌∷◌, length, Some, sym, refl, subst, inl, inr, arith, lit<, lit≤, ltb→lt, leb→le}
use mathlib.Core.List.Memᴰ
use mathlib.Core.List.{Memᴰ}
use Rattle.byte_field.specs.Byte.{IsByte}
use Rattle.elimination.specs.Polynomial.{Bytes}
use Rattle.pieces.specs.Rows.{MAX, LAST, piece_of}
use Rattle.keeper.specs.Real.{WorkOut, WorksOut}
use Rattle.cases.specs.Table.{object, other}

-- A content that an object may have.
pub record Content (c : List ℕ) : Type 0 where
  pub bytes : Bytes c
  pub short : length c ≤ MAX

pub object_may : Content object
object_may = record { bytes = (lit< tt, (lit< tt, tt)); short = lit≤ tt }

pub other_may : Content other
other_may = record { bytes = (lit< tt, (lit< tt, (lit< tt, tt))); short = lit≤ tt }

-- Its bytes, one by one.
pub each_byte : (c : List ℕ) → Bytes c → (b : ℕ) → Memᴰ b c → b < 256
each_byte [] all b m = absurd (Memᴰ.not-nil m)
each_byte (x ∷ xs) all b m =
    elim (Memᴰ.cases_cons m) [ inl e ↦ subst IsByte (sym e) all.0 | inr rest ↦ each_byte xs all.1 b rest ]

-- The pieces of two drives.
abbrev pub two : (d e : ℕ) → List ℕ → List (ℕ × List ℕ)
two d e c = (d, piece_of 2 d c) ∷ (e, piece_of 2 e c) ∷ []

not_the_higher : (d e : ℕ) → d < e → Memᴰ d (e ∷ []) → ⊥
not_the_higher d e less m = elim (Memᴰ.cases_cons m) [ inl h ↦ omega (arith, h, less) | inr h ↦ Memᴰ.not-nil h ]

pub worked : (f : WorkOut) → WorksOut 2 f → (d e : ℕ) → T (ltb d e) → T (leb e LAST) → (c : List ℕ) → Content c → f (two d e c) ≡ Some c
worked f w d e less last c may =
    let below : d < e = ltb→lt d e less in
    let high : e ≤ LAST = leb→le e LAST last in
    w.works (two d e c) c
    (record {
      many = refl;
      drives = (omega arith, (high, tt));
      distinct = (not_the_higher d e below, (Memᴰ.not-nil, tt));
      bytes = may.bytes;
      short = may.short;
      pieces = refl;
    })
