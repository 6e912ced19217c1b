-- The real codec and format keep the laws.
use Rattle.std.proofs.Common.{◌≡◌, ℕ, ◌+◌, ◌-◌, ◌*◌, ◌/◌, ◌<◌, ◌≤◌, List, [], ◌∷◌, map, length, drop, Some, sym, refl, ap, ◌∙◌, subst, div-lt_iff_lt-mul, mul-le-mul_left, arith}
use mathlib.Core.List.{Memᴰ}
use Rattle.std.specs.List.{AllByRecursion}
use Rattle.std.proofs.lemmas.List.{length-map}
use Rattle.elimination.specs.Polynomial.{Distinct as Apart}
use Rattle.pieces.specs.Rows.{LAST, rows_for, framed, piece_of}
use Rattle.pieces.proofs.Values.{length_values}
use Rattle.slots.specs.Layout.{record_of, piece_room}
use Rattle.slots.proofs.Standing.{reads_written, cleared_reads_empty}
use Rattle.keeper.specs.Real.{on_drives, parts, WorkOut, codec_of}
use Rattle.recovery.specs.Laws.{Content, Distinct, pieces_on}
use Rattle.recovery.specs.Real.{read_as, RealLaws, real_depot, RealSafety, Real}
use Rattle.recovery.proofs.Store.{store_safety}

-- A piece isn't longer than a slot has room for.
rows_few : (need n : ℕ) → 1 ≤ need → rows_for need n ≤ 4 + n
unfolding rows_for
rows_few need n h =
    let m : (4 + n) * 1 ≤ (4 + n) * need = mul-le-mul_left (4 + n) h in
    let l : 4 + n + (need - 1) < (5 + n) * need = omega arith in
    let q : (4 + n + (need - 1)) / need < 5 + n = (div-lt_iff_lt-mul h).1 l in
    omega arith

piece_short : (need d : ℕ) (c : List ℕ) → 1 ≤ need → length c ≤ 65536 → length (piece_of need d c) ≤ piece_room
unfolding piece_of
piece_short need d c h l =
    let e = length_values need (rows_for need (length c)) (d + 1) (framed need c) in
    let r = rows_few need (length c) h in
    omega arith

-- The same words of the two libraries.
all_from : {P : ℕ → Type 0} (xs : List ℕ) → ((x : ℕ) → Memᴰ x xs → P x) → AllByRecursion P xs
all_from [] h = tt
all_from (x ∷ xs) h = (h x (Memᴰ.head refl), all_from xs (λ y m. h y (Memᴰ.tail m)))

apart_from : (xs : List ℕ) → Distinct xs → Apart xs
unfolding Distinct
apart_from [] h = tt
apart_from (x ∷ xs) h = (h.0, apart_from xs h.1)

module _ (need o : ℕ) (f : WorkOut) (c : List ℕ) where
  on_drives_lem : (ds : List ℕ) → on_drives (pieces_on (codec_of need o f) c ds) ≡ ds
  on_drives_lem [] = refl
  on_drives_lem (d ∷ ds) = ap (λ l. d ∷ l) (on_drives_lem ds)

  parts_are : (ds : List ℕ) → parts (pieces_on (codec_of need o f) c ds) ≡ map (λ d. piece_of need d c) ds
  parts_are [] = refl
  parts_are (d ∷ ds) = ap (λ l. piece_of need d c ∷ l) (parts_are ds)

real_laws : RealLaws
real_laws n need o f k w =
    record {
      some = k.some;
      enough = k.enough;
      written = λ d v c old l small fits. ap read_as (reads_written o d v (piece_of need d c) (drop (length (record_of o d v (piece_of need d c))) old) (omega arith) (piece_short need d c k.some fits.short));
      wiped = λ d old l. ap read_as (cleared_reads_empty o d old);
      works = works';
    }
  where
    works' : (c : List ℕ) (ds : List ℕ) → Content c → Distinct ds → ((d : ℕ) → Memᴰ d ds → d < n) → length ds ≡ need → f (pieces_on (codec_of need o f) c ds) ≡ Some c
    works' c ds fits apart below many =
        w.works (pieces_on (codec_of need o f) c ds) c
        (record {
          many = length-map ds (λ d. (d, piece_of need d c)) ∙ many;
          drives = subst (AllByRecursion (λ d. d ≤ LAST)) (sym (on_drives_lem need o f c ds)) (all_from ds (λ d m. let z = below d m in let q = k.most in omega arith));
          distinct = subst Apart (sym (on_drives_lem need o f c ds)) (apart_from ds apart);
          bytes = all_from c fits.bytes;
          short = fits.short;
          pieces = parts_are need o f c ds ∙ ap (map (λ d. piece_of need d c)) (sym (on_drives_lem need o f c ds));
        })

real_safety : RealSafety
real_safety n need f k w s r o l = store_safety (real_depot n need f) (λ p m. real_laws n need p f k w) s r o l

pub real : Real
real = record { laws = real_laws; safety = real_safety }
