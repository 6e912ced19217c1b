-- From points and values that stand one after the other to the rows behind pieces.
use Rattle.std.proofs.Common.{◌≡◌, ℕ, zero, suc, ◌+◌, ◌*◌, ◌/◌, ◌%◌, ◌<◌, Bool, true, false, cond, eqb, List, [], ◌∷◌, ◌++◌, map, length, get_or, take, drop, vec_items, sym, refl, ap, ◌∙◌, subst, ap₂, inl, inr, suc-mul, mul_comm, zero-mul, arith, lit<}
use mathlib.Core.List.Memᴰ
use mathlib.Core.List.{Memᴰ}
use native.Mathlib.Nat.{mul-div_cancel_left, mul-mod_right}
use Rattle.std.specs.List.{flat_map, AllByRecursion}
use Rattle.std.proofs.lemmas.List.{length-append, length-map, get_or_append_left, get_or-append_right}
use Rattle.std.proofs.lemmas.Bool.{ne_eqb, eq-eqb, both_ways}
use Rattle.elimination.specs.Interpolation.{Solved, reason, repeated, width_of, number}
use Rattle.elimination.specs.Polynomial.{value, Bytes, Distinct}
use Rattle.elimination.specs.declared.Unsolved.{Unsolved}
use Rattle.elimination.specs.declared.Unsolved.TheVariants as no
use Rattle.elimination.proofs.Points.{distinct_from, distinct_repeated}
use Rattle.pieces.specs.Given.{IsDrive, drives, parts, width, OneLength, RowsOf}
use Rattle.pieces.specs.Refusals.{NotWorked}
use Rattle.pieces.specs.Rows.{values}
use Rattle.pieces.specs.Unsolved.{unsolved}
use Rattle.pieces.specs.declared.working.Piece.{Piece}
use Rattle.pieces.proofs.Values.{values_are, row}

abbrev pub points : List ℕ → List ℕ
points ds = map (λ d. d + 1) ds

pub points_are : (ps : List Piece) → map (λ p. p.drive + 1) ps ≡ points (drives ps)
points_are [] = refl
points_are (p ∷ ps) = ap (λ ds. (p.drive + 1) ∷ ds) (points_are ps)

-- Different drives have different points, and the other way round.
mem_up : (d : ℕ) (ds : List ℕ) → Memᴰ d ds → Memᴰ (d + 1) (points ds)
mem_up d [] m = absurd (Memᴰ.not-nil m)
mem_up d (e ∷ ds) m =
    elim (Memᴰ.cases_cons m) [ inl h ↦ Memᴰ.head (ap (λ k. k + 1) h) | inr h ↦ Memᴰ.tail (mem_up d ds h) ]

mem_down : (d : ℕ) (ds : List ℕ) → Memᴰ (d + 1) (points ds) → Memᴰ d ds
mem_down d [] m = absurd (Memᴰ.not-nil m)
mem_down d (e ∷ ds) m =
    elim (Memᴰ.cases_cons m) [ inl h ↦ Memᴰ.head (omega arith) | inr h ↦ Memᴰ.tail (mem_down d ds h) ]

pub distinct_up : (ds : List ℕ) → Distinct ds → Distinct (points ds)
distinct_up [] h = tt
distinct_up (d ∷ ds) h = (λ m. h.0 (mem_down d ds m), distinct_up ds h.1)

pub distinct_down : (ds : List ℕ) → Distinct (points ds) → Distinct ds
distinct_down [] h = tt
distinct_down (d ∷ ds) h = (λ m. h.0 (mem_up d ds m), distinct_down ds h.1)

pub points_bytes : (ds : List ℕ) → AllByRecursion IsDrive ds → Bytes (points ds)
points_bytes [] h = tt
points_bytes (d ∷ ds) h = (omega (arith, h.0), points_bytes ds h.1)

-- The pieces one after the other.
abbrev pub whole : List Piece → List ℕ
whole ps = flat_map (λ p. vec_items p.bytes) ps

module _ (w : ℕ) where
  pub length_whole : (ps : List Piece) → AllByRecursion (λ p. length p ≡ w) (parts ps) → length (whole ps) ≡ length ps * w
  length_whole [] h = sym (zero-mul w)
  length_whole (p ∷ ps) h =
      length-append (vec_items p.bytes) (whole ps) ∙ omega (arith, h.0, length_whole ps h.1, suc-mul (length ps) w)

  -- Where each byte of a piece stands.
  get_or_whole : (ps : List Piece) → AllByRecursion (λ p. length p ≡ w) (parts ps) → (i r : ℕ) → i < length ps → r < w → get_or (whole ps) (i * w + r) 0 ≡ get_or (get_or (parts ps) i []) r 0
  get_or_whole [] h i r hi hr = absurd (omega arith)
  get_or_whole (p ∷ ps) h zero r hi hr =
      ap (λ k. get_or (vec_items p.bytes ++ whole ps) k 0) (omega (arith, zero-mul w))
      ∙ get_or_append_left (vec_items p.bytes) (whole ps) 0 r (omega (arith, h.0))
  get_or_whole (p ∷ ps) h (suc i) r hi hr =
      get_or-append_right (vec_items p.bytes) (whole ps) w (suc i * w + r) 0 h.0 (omega (arith, suc-mul i w))
      ∙ ap (λ k. get_or (whole ps) k 0) (omega (arith, suc-mul i w))
      ∙ get_or_whole ps h.1 i r (omega arith) hr

  -- Where each byte of each piece is the value of its row, the pieces are the values of the rows.
  values_all : (need : ℕ) (flat : List ℕ) (ps : List Piece) → AllByRecursion (λ p. length p ≡ w) (parts ps)
      → ((i r : ℕ) → i < length ps → r < w → get_or (get_or (parts ps) i []) r 0 ≡ value (row need flat r) (get_or (points (drives ps)) i 0))
      → parts ps ≡ map (λ d. values need w (d + 1) flat) (drives ps)
  values_all need flat [] h at = refl
  values_all need flat (p ∷ ps) h at =
      ap₂ (λ q qs. q ∷ qs) (values_are need w (p.drive + 1) flat (vec_items p.bytes) h.0 (λ r hr. at 0 r (omega arith) hr))
      (values_all need flat ps h.1 (λ i r hi hr. at (suc i) r (omega arith) hr))

-- A point stands twice only where that is the reason.
unrepeated : (pts vals : List ℕ) → reason pts vals ≡ 3 → repeated pts ≡ false
unrepeated pts vals h = grind (arith, h)

-- The first piece's length is the width.
pub width_first : (ps : List Piece) (p : Piece) (n : ℕ) → 0 < length ps → p ≡ get_or ps 0 p → n ≡ length (vec_items p.bytes) → n ≡ width (parts ps)
width_first [] p n h is e = absurd (omega arith)
width_first (q ∷ ps) p n h is e = e ∙ ap (λ x. length (vec_items x.bytes)) is

-- The rows that interpolation gives are those behind the pieces.
pub rows_found : (need : ℕ) (ps : List Piece) (pts vals flat : List ℕ) → OneLength need ps → pts ≡ map (λ p. p.drive + 1) ps → vals ≡ whole ps → Solved pts vals flat → Distinct (drives ps) × RowsOf need ps flat
rows_found need ps pts vals flat one pe ve solved =
    let w = width (parts ps) in
    let h = one.0.0.0.0 in
    let pts-are : pts ≡ points (drives ps) = pe ∙ points_are ps in
    let count : length pts ≡ need = ap length pts-are ∙ length-map (drives ps) (λ d. d + 1) ∙ length-map ps (λ p. p.drive) ∙ one.0.0.1 in
    let size : length vals ≡ need * w = ap length ve ∙ length_whole w ps one.1 ∙ ap (λ k. k * w) one.0.0.1 in
    let wide : width_of pts vals ≡ w = ap₂ (λ a b. a / b) size count ∙ mul-div_cancel_left w h in
    let at : (i r : ℕ) → i < length ps → r < w → get_or (get_or (parts ps) i []) r 0 ≡ value (row need flat r) (get_or (points (drives ps)) i 0) = λ i r hi hr.
    sym (get_or_whole w ps one.1 i r hi hr)
    ∙ ap₂ (λ vs k. get_or vs (i * k + r) 0) (sym ve) (sym wide)
    ∙ sym (solved.interpolates.at r i (subst (λ k. r < k) (sym wide) hr) (subst (λ k. i < k) (sym count) (subst (λ k. i < k) one.0.0.1 hi)))
    ∙ ap₂ (λ k xs. value (take k (drop (r * k) flat)) (get_or xs i 0)) count pts-are in (
      distinct_down (drives ps) (subst Distinct pts-are (distinct_from pts (unrepeated pts vals solved.allowed))),
      record {
        bytes = solved.interpolates.bytes;
        long = solved.interpolates.long ∙ size ∙ mul_comm need w;
        same = values_all w need flat ps one.1 at;
      },
    )

-- Nothing but a point that stands twice can be the reason of a refusal.
reason_is : (need : ℕ) (ps : List Piece) (pts vals : List ℕ) → OneLength need ps → pts ≡ map (λ p. p.drive + 1) ps → vals ≡ whole ps → reason pts vals ≡ cond (repeated pts) 2 3
reason_is need ps pts vals one pe ve =
    let w = width (parts ps) in
    let h = one.0.0.0.0 in
    let count : length pts ≡ need = ap length (pe ∙ points_are ps) ∙ length-map (drives ps) (λ d. d + 1) ∙ length-map ps (λ p. p.drive) ∙ one.0.0.1 in
    let size : length vals ≡ need * w = ap length ve ∙ length_whole w ps one.1 ∙ ap (λ k. k * w) one.0.0.1 in
    let some : eqb (length pts) 0 ≡ false = ne_eqb (length pts) 0 (λ z. omega (arith, count, z)) in
    let even : eqb (length vals % length pts) 0 ≡ true = eq-eqb (length vals % length pts) 0 (ap₂ (λ a b. a % b) size count ∙ mul-mod_right need w) in
    simp (some, even)

two_or_three : (b : Bool) (k : ℕ) → k ≡ cond b 2 3 → k < 2 → ⊥
two_or_three true k e h = omega arith
two_or_three false k e h = omega arith

-- A refusal of interpolation is a refusal of working out.
pub not_found : (need : ℕ) (ps : List Piece) (pts vals : List ℕ) (e : Unsolved) → OneLength need ps → pts ≡ map (λ p. p.drive + 1) ps → vals ≡ whole ps → number e ≡ reason pts vals → NotWorked need ps (unsolved e)
not_found need ps pts vals no.NoMemory one pe ve h = one
not_found need ps pts vals no.SamePoint one pe ve h =
    (one, λ d. unlike (repeated pts) (h ∙ reason_is need ps pts vals one pe ve) (distinct_repeated pts (subst Distinct (sym (pe ∙ points_are ps)) (distinct_up (drives ps) d))))
  where
    unlike : (b : Bool) → ◌≡◌ {A = ℕ} 2 (cond b 2 3) → b ≡ false → ⊥
    unlike true e f = both_ways true f refl
    unlike false e f = omega arith
not_found need ps pts vals no.NoPoints one pe ve h = absurd (two_or_three (repeated pts) 0 (h ∙ reason_is need ps pts vals one pe ve) (lit< tt))
not_found need ps pts vals no.Uneven one pe ve h = absurd (two_or_three (repeated pts) 1 (h ∙ reason_is need ps pts vals one pe ve) (lit< tt))
