-- From the pieces that the code hands on to what the definitions say of them.
use Rattle.std.proofs.Common.{◌≡◌, ℕ, zero, suc, ◌+◌, ◌*◌, ◌<◌, ◌≤◌, List, [], ◌∷◌, map, length, take, Some, None, vec_items, sym, refl, ap, ◌∙◌, suc-mul, mul-le-mul_left, arith}
use native.Mathlib.Nat.{div-le_of_le-mul}
use Rattle.std.proofs.lemmas.List.{length-map, take-map}
use Rattle.std.proofs.lemmas.Bool.{le-leb, lt-leb}
use Rattle.std.specs.List.{AllByRecursion}
use Rattle.pieces.proofs.Uniqueness.{made_work}
use Rattle.pieces.proofs.Values.{length_values}
use Rattle.pieces.specs.Given.{IsNeed, IsDrive, drives, parts as their_parts, Worked as TheirWorked}
use Rattle.pieces.specs.Refusals.{Made}
use Rattle.pieces.specs.declared.working.Piece.{Piece}
use Rattle.pieces.specs.Rows.{MAX, rows_for, piece_of}
use Rattle.slots.specs.Layout.{record_of, record_for, piece_room}
use Rattle.keeper.specs.Object.{Reading, Setup}
use Rattle.keeper.specs.Readings.{pieces_of, given, content_of}
use Rattle.keeper.specs.Real.{piece_given, on_drives, parts, Fits, WorkOut, WorksOut, codec_of}

-- A piece is no longer than its object with its length.
pub piece_short : (need d : ℕ) (c : List ℕ) → 0 < need → length (piece_of need d c) ≤ 4 + length c
unfolding piece_of rows_for
piece_short zero d c h = absurd (omega arith)
piece_short (suc k) d c h =
    rw (length_values (suc k) (rows_for (suc k) (length c)) (d + 1) _)
    (div-le_of_le-mul (suc k) (let one : 1 ≤ 4 + length c = omega arith in let many : k * 1 ≤ k * (4 + length c) = mul-le-mul_left k one in rw suc-mul (omega (arith, many))))

-- So a slot has room for its record.
pub record_room_lem : (o d v need : ℕ) (c p : List ℕ) → 0 < need → length c ≤ 65536 → p ≡ piece_of need d c → record_for o d v p ≡ None → ⊥
record_room_lem o d v need c p h l e none =
    let short : length p ≤ piece_room = rw e (omega (arith, piece_short need d c h)) in
    let room = le-leb (length p) piece_room short in
    let some : record_for o d v p ≡ Some (record_of o d v p) = rw room in
    let z : ◌≡◌ {A = ℕ} 0 1 = cc in omega arith

-- The drives and the bytes of pieces, in the words of either layer.
pub drives_given : (ps : List Piece) → on_drives (map piece_given ps) ≡ drives ps
drives_given [] = refl
drives_given (p ∷ ps) = ap (λ ds. p.drive ∷ ds) (drives_given ps)

pub parts_given : (ps : List Piece) → parts (map piece_given ps) ≡ their_parts ps
parts_given [] = refl
parts_given (p ∷ ps) = ap (λ bs. vec_items p.bytes ∷ bs) (parts_given ps)

-- What was worked out fits the pieces.
pub fits_worked : (need : ℕ) (ps : List Piece) (c : List ℕ) → TheirWorked need ps c → Fits need (map piece_given ps) c
fits_worked need ps c w =
    record {
      many = length-map ps piece_given ∙ w.sound.0.0.0.1;
      drives = rw (drives_given ps) w.sound.0.0.1;
      distinct = rw (drives_given ps) w.sound.1;
      bytes = w.bytes;
      short = w.length_is;
      pieces = rw (drives_given ps, parts_given ps) w.pieces_are;
    }

all_made : (need : ℕ) (c : List ℕ) (ps : List Piece) → IsNeed need → length c ≤ MAX → AllByRecursion IsDrive (drives ps) → their_parts ps ≡ map (λ d. piece_of need d c) (drives ps) → AllByRecursion (λ p. Made need p.drive c (vec_items p.bytes)) ps
all_made need c [] n l ds e = tt
all_made need c (p ∷ ps) n l ds e =
    (record { need_is = n; drive_is = ds.0; length_is = l; piece_is = cc }, all_made need c ps n l ds.1 (cc))

-- And what fits them is worked out.
pub worked_fits : (need : ℕ) (ps : List Piece) (c : List ℕ) → IsNeed need → Fits need (map piece_given ps) c → TheirWorked need ps c
worked_fits need ps c n f =
    let ds : AllByRecursion IsDrive (drives ps) = rw (drives_given ps) at f.drives in
    let es : their_parts ps ≡ map (λ d. piece_of need d c) (drives ps) = rw (drives_given ps, parts_given ps) at f.pieces in
    made_work need ps c n.0 (sym (length-map ps piece_given) ∙ f.many) (rw (drives_given ps) at f.distinct) f.bytes (all_made need c ps n f.short ds es)

-- The content of a version by what its pieces work out to.
module _ (need v : ℕ) (rs : List Reading) (ps : List Piece) (same : map piece_given ps ≡ map given (take need (pieces_of v rs))) (n : IsNeed need) (o : ℕ) (f : WorkOut) (u : Setup) (right : WorksOut need f) (un : u.need ≡ need) where
  pub content_worked : (c : List ℕ) → need ≤ length (pieces_of v rs) → TheirWorked need ps c → content_of (codec_of need o f) u v rs ≡ Some c
  unfolding content_of
  content_worked c enough w =
      rw (un, le-leb need (length (pieces_of v rs)) enough, ← same) (right.works (map piece_given ps) c (fits_worked need ps c w))

  pub content_none : need ≤ length (pieces_of v rs) → ((c : List ℕ) → TheirWorked need ps c → ⊥) → content_of (codec_of need o f) u v rs ≡ None
  unfolding content_of
  content_none enough never =
      rw (un, le-leb need (length (pieces_of v rs)) enough, ← same) (right.fails (map piece_given ps) (λ c fit. never c (worked_fits need ps c n fit)))

-- The pieces that were chosen are as many as the version has, and so are the first of them.
pub chosen_many : (ps : List Piece) (qs : List Reading) → map piece_given ps ≡ map given qs → length ps ≡ length qs
chosen_many ps qs e = sym (length-map ps piece_given) ∙ (ap length e ∙ length-map qs given)

pub chosen_first : (n : ℕ) (ps first : List Piece) (qs : List Reading) → map piece_given ps ≡ map given qs → first ≡ take n ps → map piece_given first ≡ map given (take n qs)
chosen_first n ps first qs e t = ap (map piece_given) t ∙ (sym (take-map piece_given n ps) ∙ (ap (take n) e ∙ take-map given n qs))

-- Where there are fewer pieces than are needed, there is none.
pub content_few : (need v : ℕ) (rs : List Reading) (o : ℕ) (f : WorkOut) (u : Setup) → u.need ≡ need → length (pieces_of v rs) < need → content_of (codec_of need o f) u v rs ≡ None
unfolding content_of
content_few need v rs o f u un few = rw (un, lt-leb need (length (pieces_of v rs)) few)
