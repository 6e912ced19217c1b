-- Trying every content finds the one that has the pieces.
use Rattle.std.proofs.Common.{◌≡◌, ℕ, zero, suc, ◌<◌, ◌≤◌, Bool, true, ltb, leb, List, [], ◌∷◌, map, length, Some, None, Decides, sym, refl, ap, ◌∙◌, ap₂, inl, inr, arith}
use mathlib.Core.List.Memᴰ
use mathlib.Core.List.{Memᴰ}
use Rattle.std.specs.List.{list_all, AllByRecursion}
use Rattle.std.specs.Str.{bytes_eq}
use Rattle.std.proofs.lemmas.Slice.Eq.{bytes_eq-Decides}
use Rattle.std.proofs.lemmas.Bool.{and_parts, and_from, eqb-true, eq-eqb, leb-true, le-leb, ltb-true, lt-ltb, not-true, not_from_false, both_ways, cases_eq, cases_Bool, cond-true, cond-false}
use Rattle.std.proofs.ByRecursion.{Decides-by_and}
use Rattle.elimination.specs.Interpolation.{repeated}
use Rattle.elimination.specs.Polynomial.{Bytes}
use Rattle.elimination.proofs.Points.{distinct_from, distinct_repeated}
use Rattle.pieces.specs.Rows.{MAX, LAST, piece_of}
use Rattle.keeper.specs.Real.{on_drives, parts, Fits}
use Rattle.codec.specs.WorkOut.{below, contents, first, fits, work_out_of, SomeWorksOut}
use Rattle.codec.proofs.Unique.{unique}

-- Every list of so many bytes is among those tried.
in_below : (n : ℕ) (f : ℕ → List (List ℕ)) (b : ℕ) (c : List ℕ) → b < n → Memᴰ c (f b) → Memᴰ c (below n f)
unfolding below
in_below zero f b c h m = absurd (omega arith)
in_below (suc n) f b c h m =
    elim (cases_eq b n) [
      | inl e ↦ Memᴰ.append_right (below n f) (rw e at m)
      | inr ne ↦ Memᴰ.append_left (f n) (in_below n f b c (omega arith) m)
    ]

in_map : (b : ℕ) (cs : List (List ℕ)) (c : List ℕ) → Memᴰ c cs → Memᴰ (b ∷ c) (map (λ x. b ∷ x) cs)
in_map b [] c m = absurd (Memᴰ.not-nil m)
in_map b (x ∷ cs) c m =
    elim (Memᴰ.cases_cons m) [ inl e ↦ Memᴰ.head (ap (λ t. b ∷ t) e) | inr m' ↦ Memᴰ.tail (in_map b cs c m') ]

in_contents : (n : ℕ) (c : List ℕ) → Bytes c → length c ≤ n → Memᴰ c (contents n)
unfolding contents
in_contents zero [] h l = Memᴰ.head refl
in_contents zero (b ∷ c) h l = absurd (omega arith)
in_contents (suc n) [] h l = Memᴰ.head refl
in_contents (suc n) (b ∷ c) h l =
    Memᴰ.tail (in_below 256 (λ x. map (λ t. x ∷ t) (contents n)) b (b ∷ c) h.0 (in_map b (contents n) c (in_contents n c h.1 (omega arith))))

-- If one passes, the first passes; if none does, there is no first.
first_passes : (test : List ℕ → Bool) (cs : List (List ℕ)) (c : List ℕ) → Memᴰ c cs → test c ≡ true → (x : List ℕ) × (first test cs ≡ Some x) × (test x ≡ true)
unfolding first
first_passes test [] c m t = absurd (Memᴰ.not-nil m)
first_passes test (x ∷ cs) c m t =
    elim (cases_Bool (test x)) [
      | inl e ↦ (x, cond-true (test x) _ _ e, e)
      | inr e ↦
          elim (Memᴰ.cases_cons m) [
            | inl same ↦ absurd (both_ways (test x) e (ap test (sym same) ∙ t))
            | inr m' ↦ let found = first_passes test cs c m' t in (found.0, cond-false (test x) _ _ e ∙ found.1, found.2)
          ]
    ]

first_none : (test : List ℕ → Bool) (cs : List (List ℕ)) → ((c : List ℕ) → test c ≡ true → ⊥) → first test cs ≡ None
unfolding first
first_none test [] never = refl
first_none test (c ∷ cs) never =
    elim (cases_Bool (test c)) [ inl e ↦ absurd (never c e) | inr e ↦ cond-false (test c) _ _ e ∙ first_none test cs never ]

-- The test decides what it is a test of.
pieces_to : (need : ℕ) (c : List ℕ) (ps : List (ℕ × List ℕ)) → AllByRecursion (λ p. p.1 ≡ piece_of need p.0 c) ps → parts ps ≡ map (λ d. piece_of need d c) (on_drives ps)
pieces_to need c [] h = refl
pieces_to need c (p ∷ ps) h = ap₂ ◌∷◌ h.0 (pieces_to need c ps h.1)

pieces_from : (need : ℕ) (c : List ℕ) (ps : List (ℕ × List ℕ)) → parts ps ≡ map (λ d. piece_of need d c) (on_drives ps) → AllByRecursion (λ p. p.1 ≡ piece_of need p.0 c) ps
pieces_from need c [] e = tt
pieces_from need c (p ∷ ps) e =
    let here : p.1 ≡ piece_of need p.0 c = cc in
    let rest : parts ps ≡ map (λ d. piece_of need d c) (on_drives ps) = cc in
    (here, pieces_from need c ps rest)

drives_decide : (ds : List ℕ) → Decides (list_all (λ d. leb d LAST) ds) (AllByRecursion (λ d. d ≤ LAST) ds)
drives_decide ds = Decides-by_and (λ d. leb d LAST) (λ d. d ≤ LAST) (list_all (λ d. leb d LAST)) (λ d. (leb-true d LAST, le-leb d LAST)) refl (λ d ds. refl) ds

bytes_decide : (c : List ℕ) → Decides (list_all (λ b. ltb b 256) c) (Bytes c)
bytes_decide c = Decides-by_and (λ b. ltb b 256) (λ b. b < 256) (list_all (λ b. ltb b 256)) (λ b. (ltb-true b 256, lt-ltb b 256)) refl (λ b c. refl) c

pieces_decide : (need : ℕ) (c : List ℕ) (ps : List (ℕ × List ℕ)) → Decides (list_all (λ p. bytes_eq p.1 (piece_of need p.0 c)) ps) (AllByRecursion (λ p. p.1 ≡ piece_of need p.0 c) ps)
pieces_decide need c ps =
    let test : ℕ × List ℕ → Bool = λ p. bytes_eq p.1 (piece_of need p.0 c) in
    Decides-by_and test (λ p. p.1 ≡ piece_of need p.0 c) (list_all test) (λ p. bytes_eq-Decides p.1 (piece_of need p.0 c)) refl (λ p ps. refl) ps

fits_decides : (need : ℕ) (ps : List (ℕ × List ℕ)) (c : List ℕ) → Decides (fits need ps c) (Fits need ps c)
unfolding fits
fits_decides need ps c = (
  λ t.
      let a = and_parts _ _ t in
      let b = and_parts _ _ a.1 in
      let d = and_parts _ _ b.1 in
      let e = and_parts _ _ d.1 in
      let f = and_parts _ _ e.1 in
      record {
        many = eqb-true (length ps) need a.0;
        drives = (drives_decide (on_drives ps)).0 b.0;
        distinct = distinct_from (on_drives ps) (not-true (repeated (on_drives ps)) d.0);
        bytes = (bytes_decide c).0 e.0;
        short = leb-true (length c) MAX f.0;
        pieces = pieces_to need c ps ((pieces_decide need c ps).0 f.1);
      },
  λ h.
      and_from _ _ (eq-eqb (length ps) need h.many)
      (and_from _ _ ((drives_decide (on_drives ps)).1 h.drives)
      (and_from _ _ (not_from_false (repeated (on_drives ps)) (distinct_repeated (on_drives ps) h.distinct))
      (and_from _ _ ((bytes_decide c).1 h.bytes)
      (and_from _ _ (le-leb (length c) MAX h.short)
      ((pieces_decide need c ps).1 (pieces_from need c ps h.pieces)))))),
)

pub some_works_out : SomeWorksOut
unfolding work_out_of
some_works_out need low =
    record {
      works = λ ps c h.
          let found = first_passes (fits need ps) (contents MAX) c (in_contents MAX c h.bytes h.short) ((fits_decides need ps c).1 h) in
          found.1 ∙ ap Some (unique need ps found.0 c low ((fits_decides need ps found.0).0 found.2) h);
      fails = λ ps never. first_none (fits need ps) (contents MAX) (λ c t. never c ((fits_decides need ps c).0 t));
    }
