-- That the object worked out of pieces is the one that they are of, and the only one.
use Rattle.std.proofs.Common.{◌≡◌, ℕ, ◌+◌, ◌*◌, ◌/◌, ◌<◌, ◌≤◌, ◌⊎◌, List, [], ◌∷◌, map, length, take, drop, Ok, Err, vec_items, Result, Vec, sym, refl, ap, ◌∙◌, subst, ap₂, inl, inr, mul-div_cancel, arith, MatchResult}
use mathlib.Core.List.Memᴰ
use mathlib.Core.List.{Memᴰ}
use Rattle.std.specs.List.{AllByRecursion}
use Rattle.std.proofs.ByRecursion.{All-take, All-drop}
use Rattle.std.proofs.lemmas.List.{length-map, length-take}
use Rattle.byte_field.specs.Byte.{IsByte}
use Rattle.std.specs.declared.alloc.Global.{Global}
use Rattle.elimination.specs.Polynomial.{Bytes}
use Rattle.pieces.specs.Given.{IsNeed, IsDrive, IsZero, drives, parts, pieces_of, width, Sound, RowsOf, Worked, length_in}
use Rattle.pieces.specs.Outcomes.{MadeWork, Outcome, Read, Remade}
use Rattle.pieces.specs.Refusals.{Made, NotMade, NotRead, Unreadable, NotWorked}
use Rattle.pieces.specs.Rows.{MAX, values, piece_of, framed, rows_for}
use Rattle.pieces.specs.declared.errors.PieceError.{PieceError}
use Rattle.pieces.specs.declared.errors.PieceError.TheVariants.{NeedOutOfRange, DriveOutOfRange, ObjectTooLong, TooFewPieces, TooManyPieces, DifferentLengths, SameDrive, LengthTooLarge, WrongRowCount, NotZeroFilled, NoMemory}
use Rattle.pieces.specs.declared.working.Piece.{Piece}
use Rattle.pieces.proofs.Frame.{length_framed, length_in_framed, object_framed, filled_framed, framed_bytes, framed_again}
use Rattle.pieces.proofs.Joining.{points, distinct_up, points_bytes}
use Rattle.pieces.proofs.Values.{length_values, rows_determined}

-- The pieces are as long as the object's rows are many.
width_is : (need : ℕ) (ps : List Piece) (object : List ℕ) → 0 < length ps → parts ps ≡ pieces_of need (drives ps) object → width (parts ps) ≡ rows_for need (length object)
unfolding piece_of
width_is need [] object h same = absurd (omega arith)
width_is need (p ∷ ps) object h same = ap width same ∙ length_values need (rows_for need (length object)) (p.drive + 1) (framed need object)

-- The frame of an object has the object's pieces as its values.
rows_behind : (need : ℕ) (ps : List Piece) (object : List ℕ) → Worked need ps object → RowsOf need ps (framed need object)
unfolding piece_of
rows_behind need ps object w =
    let e = width_is need ps object (omega (arith, w.sound.0.0.0.0.0, w.sound.0.0.0.1)) w.pieces_are in
    record {
      bytes = framed_bytes need object w.bytes;
      long = length_framed need object w.sound.0.0.0.0.0 ∙ ap (λ k. k * need) (sym e);
      same = w.pieces_are ∙ ap (λ k. map (λ d. values need k (d + 1) (framed need object)) (drives ps)) (sym e);
    }

-- Where two functions have the same values over the drives, they have at each of their points.
same_at : (ds : List ℕ) (f g : ℕ → List ℕ) → map (λ d. f (d + 1)) ds ≡ map (λ d. g (d + 1)) ds → (x : ℕ) → Memᴰ x (points ds) → f x ≡ g x
same_at [] f g e x m = absurd (Memᴰ.not-nil m)
same_at (d ∷ ds) f g e x m =
    elim (Memᴰ.cases_cons m) [ inl h ↦ ap f h ∙ heads e ∙ sym (ap g h) | inr h ↦ same_at ds f g (tails e) x h ]
  where
    heads : {a b : List ℕ} {l k : List (List ℕ)} → a ∷ l ≡ b ∷ k → a ≡ b
    heads p = cc

    tails : {a b : List ℕ} {l k : List (List ℕ)} → a ∷ l ≡ b ∷ k → l ≡ k
    tails p = cc

-- The rows behind pieces are the only ones.
rows_same : (need : ℕ) (ps : List Piece) (f g : List ℕ) → Sound need ps → RowsOf need ps f → RowsOf need ps g → f ≡ g
rows_same need ps f g s rf rg =
    rows_determined need (width (parts ps)) (points (drives ps)) f g rf.bytes rg.bytes (points_bytes (drives ps) s.0.0.1) (distinct_up (drives ps) s.1)
    (omega (arith, length-map (drives ps) (λ d. d + 1), length-map ps (λ p. p.drive), s.0.0.0.1)) rf.long rg.long
    (λ x m. same_at (drives ps) (λ y. values need (width (parts ps)) y f) (λ y. values need (width (parts ps)) y g) (sym rf.same ∙ rg.same) x m)

-- Objects with one frame are one.
framed_same : (need : ℕ) (a b : List ℕ) → length a ≤ MAX → length b ≤ MAX → framed need a ≡ framed need b → a ≡ b
framed_same need a b ha hb e =
    let n : length a ≡ length b = sym (length_in_framed need a ha) ∙ ap length_in e ∙ length_in_framed need b hb in
    sym (object_framed need a) ∙ ap₂ (λ k f. take k (drop 4 f)) n e ∙ object_framed need b

-- Only one object has these pieces.
pub worked_same : (need : ℕ) (ps : List Piece) (a b : List ℕ) → Worked need ps a → Worked need ps b → a ≡ b
worked_same need ps a b wa wb =
    framed_same need a b wa.length_is wb.length_is (rows_same need ps (framed need a) (framed need b) wa.sound (rows_behind need ps a wa) (rows_behind need ps b wb))

-- What is read off the rows behind pieces is worked out of them.
pub read_worked : (need : ℕ) (ps : List Piece) (flat object : List ℕ) → Sound need ps → RowsOf need ps flat → Read need flat object → Worked need ps object
unfolding piece_of
read_worked need ps flat object s rows r =
    let h = s.0.0.0.0.0 in
    let whole : flat ≡ framed need object = framed_again need flat h rows.bytes r.long r.filled ∙ ap (framed need) (sym r.object_is) in
    let product : width (parts ps) * need ≡ rows_for need (length object) * need = sym rows.long ∙ ap length whole ∙ length_framed need object h in
    let e : width (parts ps) ≡ rows_for need (length object) =
    sym (mul-div_cancel (width (parts ps)) h) ∙ ap (λ k. k / need) product ∙ mul-div_cancel (rows_for need (length object)) h in
    record {
      sound = s;
      bytes = subst Bytes (sym r.object_is) (All-take IsByte (length_in flat) (drop 4 flat) (All-drop IsByte 4 flat rows.bytes));
      length_is = omega (arith, ap length r.object_is, length-take (length_in flat) (drop 4 flat), r.long.0);
      pieces_are = rows.same ∙ ap₂ (λ k f. map (λ d. values need k (d + 1) f) (drives ps)) e whole;
    }

-- Where nothing is read off the rows behind pieces, no object is worked out of them.
pub not_worked : (need : ℕ) (ps : List Piece) (flat : List ℕ) (e : PieceError) → Sound need ps → RowsOf need ps flat → NotRead need flat e → NotWorked need ps e
not_worked need ps flat NeedOutOfRange s rows h = elim h [ ]
not_worked need ps flat DriveOutOfRange s rows h = elim h [ ]
not_worked need ps flat ObjectTooLong s rows h = elim h [ ]
not_worked need ps flat TooFewPieces s rows h = elim h [ ]
not_worked need ps flat TooManyPieces s rows h = elim h [ ]
not_worked need ps flat DifferentLengths s rows h = elim h [ ]
not_worked need ps flat SameDrive s rows h = elim h [ ]
not_worked need ps flat LengthTooLarge s rows h = (s, flat, rows, h)
not_worked need ps flat WrongRowCount s rows h = (s, flat, rows, h)
not_worked need ps flat NotZeroFilled s rows h = (s, flat, rows, h)
not_worked need ps flat NoMemory s rows h = s.0

-- From the frame of an object something can be read, if there is memory.
readable : (need : ℕ) (object : List ℕ) (e : PieceError) → 0 < need → length object ≤ MAX → NotRead need (framed need object) e → e ≡ NoMemory
readable need object NeedOutOfRange h small n = elim n [ ]
readable need object DriveOutOfRange h small n = elim n [ ]
readable need object ObjectTooLong h small n = elim n [ ]
readable need object TooFewPieces h small n = elim n [ ]
readable need object TooManyPieces h small n = elim n [ ]
readable need object DifferentLengths h small n = elim n [ ]
readable need object SameDrive h small n = elim n [ ]
readable need object NoMemory h small n = refl
readable need object LengthTooLarge h small n = absurd (omega (arith, n, length_in_framed need object small))
readable need object WrongRowCount h small n =
    absurd (n.1 (length_framed need object h ∙ ap (λ k. rows_for need k * need) (sym (length_in_framed need object small))))
readable need object NotZeroFilled h small n =
    absurd (n.1 (subst (λ k. AllByRecursion IsZero (drop (4 + k) (framed need object))) (sym (length_in_framed need object small)) (filled_framed need object)))

unread : (need : ℕ) (ps : List Piece) (object : List ℕ) (e : PieceError) → Worked need ps object → Unreadable need ps e → e ≡ NoMemory
unread need ps object e w n =
    readable need object e w.sound.0.0.0.0.0 w.length_is
    (subst (λ f. NotRead need f e) (rows_same need ps n.1 (framed need object) n.0 n.2 (rows_behind need ps object w)) n.3)

-- Where there is an object with these pieces, nothing but want of memory stops it.
only_memory : (need : ℕ) (ps : List Piece) (object : List ℕ) (e : PieceError) → Worked need ps object → NotWorked need ps e → e ≡ NoMemory
only_memory need ps object NeedOutOfRange w n = absurd (n w.sound.0.0.0.0)
only_memory need ps object DriveOutOfRange w n = absurd (n.1 w.sound.0.0.1)
only_memory need ps object ObjectTooLong w n = elim n [ ]
only_memory need ps object TooFewPieces w n = absurd (omega (arith, n.1, w.sound.0.0.0.1))
only_memory need ps object TooManyPieces w n = absurd (omega (arith, n.1, w.sound.0.0.0.1))
only_memory need ps object DifferentLengths w n = absurd (n.1 w.sound.0.1)
only_memory need ps object SameDrive w n = absurd (n.1 w.sound.1)
only_memory need ps object LengthTooLarge w n = unread need ps object LengthTooLarge w n
only_memory need ps object WrongRowCount w n = unread need ps object WrongRowCount w n
only_memory need ps object NotZeroFilled w n = unread need ps object NotZeroFilled w n
only_memory need ps object NoMemory w n = refl

-- So the outcome follows from what is told.
pub outcome : (need : ℕ) (ps : List Piece) (r : Result (Vec ℕ Global) PieceError) → MatchResult r (λ v. Worked need ps (vec_items v)) (NotWorked need ps) → Outcome need ps r
outcome need ps (Ok v) h = record { told = h; found = λ object w. worked_same need ps (vec_items v) object h w }
outcome need ps (Err e) h = record { told = h; found = λ object w. only_memory need ps object e w h }

-- Where the object's piece may be made, only want of memory stops that.
only_memory_making : (need drive : ℕ) (object : List ℕ) (e : PieceError) → IsNeed need → IsDrive drive → length object ≤ MAX → NotMade need drive object e → e ≡ NoMemory
only_memory_making need drive object NeedOutOfRange h d l n = absurd (n h)
only_memory_making need drive object DriveOutOfRange h d l n = absurd (n.1 d)
only_memory_making need drive object ObjectTooLong h d l n = absurd (omega (arith, n.2))
only_memory_making need drive object TooFewPieces h d l n = elim n [ ]
only_memory_making need drive object TooManyPieces h d l n = elim n [ ]
only_memory_making need drive object DifferentLengths h d l n = elim n [ ]
only_memory_making need drive object SameDrive h d l n = elim n [ ]
only_memory_making need drive object LengthTooLarge h d l n = elim n [ ]
only_memory_making need drive object WrongRowCount h d l n = elim n [ ]
only_memory_making need drive object NotZeroFilled h d l n = elim n [ ]
only_memory_making need drive object NoMemory h d l n = refl

pub remade : (need drive : ℕ) (ps : List Piece) (r : Result (Vec ℕ Global) PieceError)
    → MatchResult r (λ v. (object : List ℕ) × Worked need ps object × Made need drive object (vec_items v)) (λ e. NotWorked need ps e ⊎ ((object : List ℕ) × Worked need ps object × NotMade need drive object e))
    → Remade need drive ps r
remade need drive ps (Ok v) h = record {
  told = h;
  found = λ object w d. h.2.piece_is ∙ ap (piece_of need drive) (worked_same need ps h.0 object h.1 w);
}
remade need drive ps (Err e) (inl h) = record { told = inl h; found = λ object w d. only_memory need ps object e w h }
remade need drive ps (Err e) (inr h) = record {
  told = inr h;
  found = λ object w d. only_memory_making need drive h.0 e h.1.sound.0.0.0.0 d h.1.length_is h.2;
}

-- Pieces that were made of one object.
made_parts : (need : ℕ) (ps : List Piece) (object : List ℕ) → AllByRecursion (λ p. Made need p.drive object (vec_items p.bytes)) ps → parts ps ≡ pieces_of need (drives ps) object
made_parts need [] object h = refl
made_parts need (p ∷ ps) object h = ap₂ (λ q qs. q ∷ qs) h.0.piece_is (made_parts need ps object h.1)

made_drives : (need : ℕ) (ps : List Piece) (object : List ℕ) → AllByRecursion (λ p. Made need p.drive object (vec_items p.bytes)) ps → AllByRecursion IsDrive (drives ps)
made_drives need [] object h = tt
made_drives need (p ∷ ps) object h = (h.0.drive_is, made_drives need ps object h.1)

pieces_level : (need : ℕ) (ds object : List ℕ) → AllByRecursion (λ p. length p ≡ rows_for need (length object)) (pieces_of need ds object)
unfolding piece_of
pieces_level need [] object = tt
pieces_level need (d ∷ ds) object = (length_values need (rows_for need (length object)) (d + 1) (framed need object), pieces_level need ds object)

first_made : (need : ℕ) (ps : List Piece) (object : List ℕ) → 0 < length ps → AllByRecursion (λ p. Made need p.drive object (vec_items p.bytes)) ps → IsNeed need × (length object ≤ MAX)
first_made need [] object h made = absurd (omega arith)
first_made need (p ∷ ps) object h made = (made.0.need_is, made.0.length_is)

pub made_work : MadeWork
made_work need ps object pos count apart bytes made =
    let same = made_parts need ps object made in
    let some : 0 < length ps = omega arith in
    let first = first_made need ps object some made in
    record {
      sound = (
        (
          ((first.0, count), made_drives need ps object made),
          subst (λ qs. AllByRecursion (λ p. length p ≡ width (parts ps)) qs) (sym same)
              (subst (λ n. AllByRecursion (λ p. length p ≡ n) (pieces_of need (drives ps) object)) (sym (width_is need ps object some same)) (pieces_level need (drives ps) object)),
        ),
        apart,
      );
      bytes = bytes;
      length_is = first.1;
      pieces_are = same;
    }
