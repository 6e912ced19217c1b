-- Two contents with the same pieces are one, since rows are determined by their values and a content is read off its rows.
use Rattle.std.proofs.Common.{◌≡◌, ℕ, ◌+◌, ◌*◌, ◌<◌, ◌≤◌, List, [], ◌∷◌, map, length, take, drop, sym, ap, ◌∙◌, ap₂, inl, inr, arith}
use mathlib.Core.List.Memᴰ
use mathlib.Core.List.{Memᴰ}
use Rattle.std.proofs.lemmas.List.{length-map}
use Rattle.pieces.specs.Given.{length_in}
use Rattle.pieces.specs.Rows.{MAX, rows_for, framed, values, piece_of}
use Rattle.pieces.proofs.Frame.{length_framed, length_in_framed, object_framed, framed_bytes}
use Rattle.pieces.proofs.Joining.{points, distinct_up, points_bytes}
use Rattle.pieces.proofs.Values.{length_values, rows_determined}
use Rattle.keeper.specs.Real.{on_drives, Fits}

-- What agrees over the drives agrees at their points.
at_points : (ds : List ℕ) (f g : ℕ → List ℕ) → map (λ d. f (d + 1)) ds ≡ map (λ d. g (d + 1)) ds → (x : ℕ) → Memᴰ x (points ds) → f x ≡ g x
at_points [] f g e x m = absurd (Memᴰ.not-nil m)
at_points (d ∷ ds) f g e x m =
    let here : f (d + 1) ≡ g (d + 1) = cc in
    let rest : map (λ d. f (d + 1)) ds ≡ map (λ d. g (d + 1)) ds = cc in
    elim (Memᴰ.cases_cons m) [ inl h ↦ ap f h ∙ here ∙ sym (ap g h) | inr h ↦ at_points ds f g rest x h ]

-- A piece has a byte for each row.
length_piece : (need d : ℕ) (c : List ℕ) → length (piece_of need d c) ≡ rows_for need (length c)
unfolding piece_of
length_piece need d c = length_values need (rows_for need (length c)) (d + 1) (framed need c)

-- Contents with the same pieces take the same number of rows.
same_rows : (need : ℕ) (ds a b : List ℕ) → 0 < length ds → map (λ d. piece_of need d a) ds ≡ map (λ d. piece_of need d b) ds → rows_for need (length a) ≡ rows_for need (length b)
same_rows need [] a b h e = absurd (omega arith)
same_rows need (d ∷ ds) a b h e =
    let here : piece_of need d a ≡ piece_of need d b = cc in
    sym (length_piece need d a) ∙ ap length here ∙ length_piece need d b

framed_same : (need : ℕ) (a b : List ℕ) → length a ≤ MAX → length b ≤ MAX → framed need a ≡ framed need b → a ≡ b
framed_same need a b ha hb e =
    let n : length a ≡ length b = sym (length_in_framed need a ha) ∙ ap length_in e ∙ length_in_framed need b hb in
    sym (object_framed need a) ∙ ap₂ (λ k f. take k (drop 4 f)) n e ∙ object_framed need b

-- One content has the pieces.
pub unique : (need : ℕ) (ps : List (ℕ × List ℕ)) (a b : List ℕ) → 1 ≤ need → Fits need ps a → Fits need ps b → a ≡ b
unfolding piece_of
unique need ps a b h fa fb =
    let ds = on_drives ps in
    let rows = rows_for need (length a) in
    let many : length ds ≡ need = length-map ps (λ p. p.0) ∙ fa.many in
    let same : map (λ d. piece_of need d a) ds ≡ map (λ d. piece_of need d b) ds = sym fa.pieces ∙ fb.pieces in
    let as_many : rows ≡ rows_for need (length b) = same_rows need ds a b (omega arith) same in
    framed_same need a b fa.short fb.short
    (rows_determined need rows (points ds) (framed need a) (framed need b) (framed_bytes need a fa.bytes) (framed_bytes need b fb.bytes)
    (points_bytes ds fa.drives) (distinct_up ds fa.distinct) (omega (arith, length-map ds (λ d. d + 1))) (length_framed need a h)
    (length_framed need b h ∙ ap (λ k. k * need) (sym as_many))
    (at_points ds (λ x. values need rows x (framed need a)) (λ x. values need rows x (framed need b))
    (same ∙ ap (λ k. map (λ d. values need k (d + 1) (framed need b)) ds) (sym as_many))))
