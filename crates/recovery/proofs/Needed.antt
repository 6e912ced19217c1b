-- A step comes out the same over the readings that it has to make.
use Rattle.std.proofs.Common.{◌≡◌, ℕ, zero, suc, ◌≤◌, Bool, true, false, cond, not, ◌&&◌, ◌||◌, eqb, ltb, leb, List, [], ◌∷◌, ◌++◌, map, length, take, Some, None, filter, Option, sym, refl, ap, ◌∙◌, subst, inl, inr, arith}
use mathlib.Core.List.Memᴰ
use mathlib.Core.List.{Memᴰ}
use Rattle.std.proofs.lemmas.List.Elements.{filter-append}
use Rattle.std.proofs.lemmas.List.{append-nil, take-append-le, length-append}
use Rattle.std.proofs.lemmas.Bool.{true≢false, eqb-true, eqb-false, eq-eqb, ne_eqb, lt-ltb, le-ltb, ltb-false, le-leb, and_parts, and_left, not-true, not_from_false}
use Rattle.keeper.specs.Object.{Knowledge, unsure, counts, writing, Reading, State, Outcome, done, removed, mended, clear_slot, none}
use Rattle.keeper.specs.Readings.{any_of, is_of, holder, precedes, copied, counts_at, taken, free_place, own_place, place_for, counts_as, pieces_of, given, content_of}
use Rattle.keeper.specs.Steps
use Rattle.keeper.specs.Steps.{places, unless}
use Rattle.keeper.specs.declared.refusal.Refusal.TheVariants.{NoSuch, DriveOut}
use Rattle.recovery.specs.Disk.{Slot, empty, holds, Site, Disk, slot_at, with_reading, read_places, read_drives, readings_of}
use Rattle.recovery.specs.World.{setup}
use Rattle.recovery.specs.Needed.{on_drive, lowest, lowest_but, Reaches, FewSuffice}
use Rattle.recovery.proofs.Lists.{any_mem, any_none, mem_kept}
use Rattle.recovery.proofs.Readings.{of_true, true_of, mem_read, mem_places, mem_drives, mem_pieces}

-- Tests over a part of a list.
any_part : (p q : Reading → Bool) (rs : List Reading) → ((r : Reading) → p r ≡ true → q r ≡ true) → any_of p (filter q rs) ≡ any_of p rs
unfolding any_of
any_part p q [] h = refl
any_part p q (r ∷ rs) h = go (q r) refl (any_part p q rs h)
  where
    go : (b : Bool) → q r ≡ b → any_of p (filter q rs) ≡ any_of p rs → any_of p (cond b (r ∷ filter q rs) (filter q rs)) ≡ (p r || any_of p rs)
    go true e k = ap (λ b. p r || b) k
    go false e k = fails (p r) refl
      where
        fails : (b : Bool) → p r ≡ b → any_of p (filter q rs) ≡ (b || any_of p rs)
        fails true f = absurd (true≢false (sym (h r f) ∙ e))
        fails false f = k

any_same : (p q : Reading → Bool) (rs : List Reading) → ((r : Reading) → p r ≡ q r) → any_of p rs ≡ any_of q rs
unfolding any_of
any_same p q [] h = refl
any_same p q (r ∷ rs) h = λ i. h r i || any_same p q rs h i

any_append : (p : Reading → Bool) (xs ys : List Reading) → any_of p xs ≡ false → any_of p (xs ++ ys) ≡ any_of p ys
unfolding any_of
any_append p [] ys h = refl
any_append p (x ∷ xs) ys h = go (p x) h (any_append p xs ys)
  where
    go : (b : Bool) → (b || any_of p xs) ≡ false → (any_of p xs ≡ false → any_of p (xs ++ ys) ≡ any_of p ys) → (b || any_of p (xs ++ ys)) ≡ any_of p ys
    go true e k = absurd (true≢false e)
    go false e k = k e

kept_same : (p q : Reading → Bool) (rs : List Reading) → ((r : Reading) → Memᴰ r rs → p r ≡ q r) → filter p rs ≡ filter q rs
kept_same p q [] h = refl
kept_same p q (r ∷ rs) h =
    let e = h r (Memᴰ.head refl) in
    let below = kept_same p q rs (λ x m. h x (Memᴰ.tail m)) in
    λ i. cond (e i) (r ∷ below i) (below i)

kept_swap : (p q : Reading → Bool) (rs : List Reading) → filter p (filter q rs) ≡ filter q (filter p rs)
kept_swap p q [] = refl
kept_swap p q (r ∷ rs) = go (p r) refl (q r) refl (kept_swap p q rs)
  where
    go : (a : Bool) → p r ≡ a → (b : Bool) → q r ≡ b → filter p (filter q rs) ≡ filter q (filter p rs) → filter p (cond b (r ∷ filter q rs) (filter q rs)) ≡ filter q (cond a (r ∷ filter p rs) (filter p rs))
    go true e true f k = rw e (rw f (ap (λ l. r ∷ l) k))
    go true e false f k = rw f k
    go false e true f k = rw e k
    go false e false f k = k

kept_all : (p : Reading → Bool) (rs : List Reading) → ((r : Reading) → Memᴰ r rs → p r ≡ true) → filter p rs ≡ rs
kept_all p [] h = refl
kept_all p (r ∷ rs) h = rw (h r (Memᴰ.head refl)) (ap (λ l. r ∷ l) (kept_all p rs (λ x m. h x (Memᴰ.tail m))))

kept_none : (p : Reading → Bool) (rs : List Reading) → ((r : Reading) → Memᴰ r rs → p r ≡ false) → filter p rs ≡ []
kept_none p [] h = refl
kept_none p (r ∷ rs) h = rw (h r (Memᴰ.head refl)) (kept_none p rs (λ x m. h x (Memᴰ.tail m)))

kept_part : (p q : Reading → Bool) (rs : List Reading) → ((r : Reading) → p r ≡ true → q r ≡ true) → filter p (filter q rs) ≡ filter p rs
kept_part p q rs h = kept_swap p q rs ∙ kept_all q (filter p rs) (λ r m. h r (mem_kept p rs m).1)

-- Copies are told by their own drive, so parts by drive have the same.
copied_part : (P : ℕ → Bool) (rs : List Reading) (r : Reading) → P r.drive ≡ true → copied (filter (λ q. P q.drive) rs) r ≡ copied rs r
copied_part P rs r h = any_part (precedes r) (λ q. P q.drive) rs (λ q e. subst (λ d. P d ≡ true) (sym (of_true r.drive r.version q (and_parts (is_of r.drive r.version q) (ltb q.place r.place) e).0).0) h)

pieces_part : (P : ℕ → Bool) (v : ℕ) (rs : List Reading) → pieces_of v (filter (λ r. P r.drive) rs) ≡ filter (λ r. P r.drive) (pieces_of v rs)
pieces_part P v rs =
    kept_same (counts_as (filter (λ r. P r.drive) rs) v) (counts_as rs v) (filter (λ r. P r.drive) rs)
    (λ r m. ap (λ b. eqb r.version v && not b) (copied_part P rs r (mem_kept (λ (q : Reading). P q.drive) rs m).1)) ∙
    kept_swap (counts_as rs v) (λ r. P r.drive) rs

-- The place for a version on a drive goes by that drive alone.
holder_part : (d v : ℕ) (rs : List Reading) → holder d v (on_drive d rs) ≡ holder d v rs
holder_part d v rs = any_part (is_of d v) (λ r. eqb r.drive d) rs (λ r e. eq-eqb r.drive d (of_true d v r e).0)

own_part : (d v : ℕ) (rs : List Reading) → own_place d v (on_drive d rs) ≡ own_place d v rs
unfolding own_place
own_part d v [] = refl
own_part d v (r ∷ rs) = go (eqb r.drive d) refl (own_part d v rs)
  where
    go : (b : Bool) → eqb r.drive d ≡ b → own_place d v (on_drive d rs) ≡ own_place d v rs → own_place d v (cond b (r ∷ on_drive d rs) (on_drive d rs)) ≡ cond (is_of d v r) (Some r.place) (own_place d v rs)
    go true e k = ap (λ o. cond (is_of d v r) (Some r.place) o) k
    go false e k = rw (and_left (eqb r.drive d) (eqb r.version v) e) k

taken_part : (d k : ℕ) (rs : List Reading) → taken d k (on_drive d rs) ≡ taken d k rs
taken_part d k rs =
    any_same (counts_at (on_drive d rs) d k) (counts_at rs d k) (on_drive d rs) same ∙
    any_part (counts_at rs d k) (λ r. eqb r.drive d) rs (λ r e. (and_parts (eqb r.drive d) (eqb r.place k && not (copied rs r)) e).0)
  where
    same : (r : Reading) → counts_at (on_drive d rs) d k r ≡ counts_at rs d k r
    same r = go (eqb r.drive d) refl
      where
        go : (b : Bool) → eqb r.drive d ≡ b → (b && (eqb r.place k && not (copied (on_drive d rs) r))) ≡ (b && (eqb r.place k && not (copied rs r)))
        go true e = ap (λ c. eqb r.place k && not c) (copied_part (λ x. eqb x d) rs r e)
        go false e = refl

free_part : (c d k : ℕ) (rs : List Reading) → free_place c d k (on_drive d rs) ≡ free_place c d k rs
unfolding free_place
free_part zero d k rs = refl
free_part (suc n) d k rs = λ i. cond (taken_part d k rs i) (free_part n d (suc k) rs i) (Some k)

place_part : (d v : ℕ) (rs : List Reading) → place_for places d v (on_drive d rs) ≡ place_for places d v rs
place_part d v rs = λ i. cond (holder_part d v rs i) (own_part d v rs i) (free_part 4 d 0 rs i)

-- Readings stand by drive.
unfoldable Rising : List Reading → Type 0
Rising [] = Unit {0}
Rising (r ∷ rs) = ((q : Reading) → Memᴰ q rs → r.drive ≤ q.drive) × Rising rs

rising_append : (xs ys : List Reading) → Rising xs → Rising ys → ((x y : Reading) → Memᴰ x xs → Memᴰ y ys → x.drive ≤ y.drive) → Rising (xs ++ ys)
unfolding Rising
rising_append [] ys a b h = b
rising_append (x ∷ xs) ys a b h = (λ q m. elim (Memᴰ.append_cases xs m) [ inl n ↦ a.0 q n | inr n ↦ h x q (Memᴰ.head refl) n ], rising_append xs ys a.1 b (λ u v m n. h u v (Memᴰ.tail m) n))

rising_places : (S : Site) (D : Disk) (c d k : ℕ) → Rising (read_places S D c d k)
unfolding Rising read_places
rising_places S D zero d k = tt
rising_places S D (suc n) d k = go (slot_at S D d k) (rising_places S D n d (suc k))
  where
    go : (s : Slot) → Rising (read_places S D n d (suc k)) → Rising (with_reading d k s (read_places S D n d (suc k)))
    go empty o = o
    go (holds v p) o = (λ q m. let z = (mem_places S D n d (suc k) m).drive in omega arith, o)

rising_drives : (S : Site) (D : Disk) (c d : ℕ) → Rising (read_drives S D c d)
unfolding Rising read_drives
rising_drives S D zero d = tt
rising_drives S D (suc n) d = rising_append (cond (D.out d) [] (read_places S D places d 0)) (read_drives S D n (suc d)) (own (D.out d)) (rising_drives S D n (suc d)) (apart (D.out d))
  where
    own : (b : Bool) → Rising (cond b [] (read_places S D places d 0))
    own true = tt
    own false = rising_places S D 4 d 0

    apart : (b : Bool) (x y : Reading) → Memᴰ x (cond b [] (read_places S D places d 0)) → Memᴰ y (read_drives S D n (suc d)) → x.drive ≤ y.drive
    apart true x y m q = absurd (Memᴰ.not-nil m)
    apart false x y m q =
        let a = (mem_places S D 4 d 0 m).drive in
        let b = (mem_drives S D n (suc d) q).from in
        omega arith

rising_kept : (p : Reading → Bool) (rs : List Reading) → Rising rs → Rising (filter p rs)
unfolding Rising
rising_kept p [] o = tt
rising_kept p (r ∷ rs) o = go (p r) (rising_kept p rs o.1)
  where
    go : (b : Bool) → Rising (filter p rs) → Rising (cond b (r ∷ filter p rs) (filter p rs))
    go true k = (λ q m. o.0 q (mem_kept p rs m).0, k)
    go false k = k

-- Of a list by drive the lowest come first.
front : (m : ℕ) (rs : List Reading) → Rising rs → lowest m rs ++ filter (λ r. not (ltb r.drive m)) rs ≡ rs
unfolding Rising
front m [] o = refl
front m (r ∷ rs) o = go (ltb r.drive m) refl (front m rs o.1)
  where
    go : (b : Bool) → ltb r.drive m ≡ b → lowest m rs ++ filter (λ q. not (ltb q.drive m)) rs ≡ rs →
        cond b (r ∷ lowest m rs) (lowest m rs) ++ cond (not b) (r ∷ filter (λ q. not (ltb q.drive m)) rs) (filter (λ q. not (ltb q.drive m)) rs) ≡ r ∷ rs
    go true e k = ap (λ l. r ∷ l) k
    go false e k =
        rw (kept_none (λ q. ltb q.drive m) rs high) (ap (λ l. r ∷ l) (kept_all (λ q. not (ltb q.drive m)) rs (λ q n. not_from_false (ltb q.drive m) (high q n))))
      where
        high : (q : Reading) → Memᴰ q rs → ltb q.drive m ≡ false
        high q n = let z = o.0 q n in le-ltb q.drive m (omega (arith, ltb-false r.drive m e))

module _ (S : Site) (D : Disk) where
  abbrev all : List Reading
  all = readings_of S D

  -- What is worked out of pieces, as many as are needed, goes by the first of them.
  worked_from : List Reading → Option (List ℕ)
  worked_from l = cond (leb S.need (length l)) (S.codec.work_out (map given (take S.need l))) None

  from_front : (xs ys : List Reading) → S.need ≤ length xs → worked_from (xs ++ ys) ≡ worked_from xs
  unfolding worked_from
  from_front xs ys h =
      let z = length-append xs ys in
      rw (le-leb S.need (length xs) h) (rw (le-leb S.need (length (xs ++ ys)) (omega arith)) (ap (λ l. S.codec.work_out (map given l)) (take-append-le S.need xs ys h)))

  content_lowest : (v m : ℕ) → Reaches S m v all → content_of S.codec (setup S D) v (lowest m all) ≡ content_of S.codec (setup S D) v all
  unfolding content_of worked_from
  content_lowest v m (inr l) = ap (λ rs. content_of S.codec (setup S D) v rs) (kept_all (λ r. ltb r.drive m) all (λ r n. let z = (mem_read S D n).inside in lt-ltb r.drive m (omega arith)))
  content_lowest v m (inl h) =
      ap worked_from (pieces_part (λ d. ltb d m) v all) ∙
      sym (from_front (lowest m L) (filter (λ r. not (ltb r.drive m)) L) (subst (λ l. S.need ≤ length l) (pieces_part (λ d. ltb d m) v all) h)) ∙
      ap worked_from (front m L (rising_kept (counts_as all v) all (rising_drives S D S.drives 0)))
    where
      L : List Reading
      L = pieces_of v all

  -- A drive's own readings and the lowest others.
  module _ (v d m : ℕ) (lacks : holder d v all ≡ false) where
    abbrev both : List Reading
    both = on_drive d all ++ lowest_but m d all

    but : (r : Reading) → Memᴰ r (lowest_but m d all) → eqb r.drive d ≡ false
    but r n = not-true (eqb r.drive d) (and_parts (ltb r.drive m) (not (eqb r.drive d)) (mem_kept (λ (q : Reading). ltb q.drive m && not (eqb q.drive d)) all n).1).1

    own_both : on_drive d both ≡ on_drive d all
    own_both =
        filter-append (λ (r : Reading). eqb r.drive d) (on_drive d all) (lowest_but m d all) ∙
        (λ i. kept_part (λ r. eqb r.drive d) (λ r. eqb r.drive d) all (λ r e. e) i ++ kept_none (λ r. eqb r.drive d) (lowest_but m d all) but i) ∙
        append-nil (on_drive d all)

    place_both : place_for places d v both ≡ place_for places d v all
    place_both = sym (place_part d v both) ∙ ap (λ rs. place_for places d v rs) own_both ∙ place_part d v all

    holder_both : holder d v both ≡ holder d v all
    holder_both = sym (holder_part d v both) ∙ ap (λ rs. holder d v rs) own_both ∙ holder_part d v all

    not_there : (r : Reading) → Memᴰ r all → r.drive ≡ d → r.version ≡ v → ⊥
    not_there r n a b = true≢false (sym (any_mem (is_of d v) n (true_of d v r a b)) ∙ lacks)

    pieces_both : pieces_of v both ≡ pieces_of v (lowest m all)
    pieces_both =
        filter-append (counts_as both v) (on_drive d all) (lowest_but m d all) ∙
        ap (λ l. l ++ filter (counts_as both v) (lowest_but m d all)) (kept_none (counts_as both v) (on_drive d all) mine) ∙
        kept_same (counts_as both v) (counts_as (lowest_but m d all) v) (lowest_but m d all) theirs ∙
        pieces_part (λ x. ltb x m && not (eqb x d)) v all ∙
        kept_same (λ r. ltb r.drive m && not (eqb r.drive d)) (λ r. ltb r.drive m) (pieces_of v all) others ∙
        sym (pieces_part (λ x. ltb x m) v all)
      where
        mine : (r : Reading) → Memᴰ r (on_drive d all) → counts_as both v r ≡ false
        mine r n =
            let q = mem_kept (λ (x : Reading). eqb x.drive d) all n in
            and_left (eqb r.version v) (not (copied both r)) (ne_eqb r.version v (not_there r q.0 (eqb-true r.drive d q.1)))

        theirs : (r : Reading) → Memᴰ r (lowest_but m d all) → counts_as both v r ≡ counts_as (lowest_but m d all) v r
        theirs r n =
            ap (λ b. eqb r.version v && not b) (any_append (precedes r) (on_drive d all) (lowest_but m d all) (any_none (precedes r) (on_drive d all) other))
          where
            other : (q : Reading) → Memᴰ q (on_drive d all) → precedes r q ≡ true → ⊥
            other q k e =
                let a = (of_true r.drive r.version q (and_parts (is_of r.drive r.version q) (ltb q.place r.place) e).0).0 in
                let b = eqb-true q.drive d (mem_kept (λ (x : Reading). eqb x.drive d) all k).1 in
                eqb-false r.drive d (but r n) (sym a ∙ b)

        others : (r : Reading) → Memᴰ r (pieces_of v all) → (ltb r.drive m && not (eqb r.drive d)) ≡ ltb r.drive m
        others r n =
            let q = mem_pieces v all n in
            let e : eqb r.drive d ≡ false = ne_eqb r.drive d (λ a. not_there r q.0 a q.1) in
            rw e (always (ltb r.drive m))
          where
            always : (b : Bool) → (b && true) ≡ b
            always true = refl
            always false = refl

    content_both : Reaches S m v all → content_of S.codec (setup S D) v both ≡ content_of S.codec (setup S D) v all
    unfolding content_of worked_from
    content_both h = ap worked_from pieces_both ∙ content_lowest v m h

  -- What is taken away.
  abbrev took : State → List Reading → Outcome
  took s l = record { reply = removed (length l); acts = map (λ r. clear_slot r.drive r.place) l; state = s }

  taking_part : (s : State) (d : ℕ) (p : Reading → Bool) → Steps.take_away s (λ r. eqb r.drive d && p r) (on_drive d all) ≡ Steps.take_away s (λ r. eqb r.drive d && p r) all
  taking_part s d p = ap (took s) (kept_part (λ r. eqb r.drive d && p r) (λ r. eqb r.drive d) all (λ r e. (and_parts (eqb r.drive d) (p r) e).0))

  -- What mending does by a place, by whether the drive has its piece, and by what is worked out.
  abbrev mends : State → (d v : ℕ) → Option ℕ → Bool → Option (List ℕ) → Outcome
  mends s d v p b c = cond (eqb v 0) (Steps.nothing_to_mend s p) (cond b (Steps.tell s (mended 0)) (Steps.remake S.codec s d v p c))

  unworked : (s : State) (d v : ℕ) (p : Option ℕ) (b : Bool) (c c' : Option (List ℕ)) → (1 ≤ v → b ≡ true) → mends s d v p b c ≡ mends s d v p b c'
  unworked s d v p b c c' h = go (eqb v 0) refl
    where
      go : (z : Bool) → eqb v 0 ≡ z →
          cond z (Steps.nothing_to_mend s p) (cond b (Steps.tell s (mended 0)) (Steps.remake S.codec s d v p c)) ≡ cond z (Steps.nothing_to_mend s p) (cond b (Steps.tell s (mended 0)) (Steps.remake S.codec s d v p c'))
      go true e = refl
      go false e = rw (h (omega (arith, eqb-false v 0 e))) refl

  module _ (s : State) where
    writing_part : (d : ℕ) (k : Knowledge) → Steps.writing_to S.codec (setup S D) s d (on_drive d all) k ≡ Steps.writing_to S.codec (setup S D) s d all k
    writing_part d unsure = refl
    writing_part d (counts v) = refl
    writing_part d (writing o v c) = ap (λ p. unless s (not (not (D.out d))) DriveOut (Steps.write_at S.codec s d v c done p)) (place_part d v all)

    tidying_part : (d : ℕ) (k : Knowledge) → Steps.tidying (setup S D) s d (on_drive d all) k ≡ Steps.tidying (setup S D) s d all k
    tidying_part d unsure = refl
    tidying_part d (writing o v c) = refl
    tidying_part d (counts v) = ap (λ o. unless s (not (not (D.out d))) DriveOut o) (taking_part s d (λ r. not (eqb r.version v)))

    unread : ((v : ℕ) → s.known ≡ counts v → 1 ≤ v → ⊥) → (rs : List Reading) (k : Knowledge) → s.known ≡ k → Steps.reading S.codec (setup S D) s rs k ≡ Steps.reading S.codec (setup S D) s all k
    unread h rs unsure e = refl
    unread h rs (writing o v c) e = refl
    unread h rs (counts v) e = go (eqb v 0) refl
      where
        go : (z : Bool) → eqb v 0 ≡ z →
            cond z (Steps.tell s none) (Steps.read_as s v (content_of S.codec (setup S D) v rs)) ≡ cond z (Steps.tell s none) (Steps.read_as s v (content_of S.codec (setup S D) v all))
        go true f = refl
        go false f = absurd (h v e (omega (arith, eqb-false v 0 f)))

    leaving : (d : ℕ) → ((v : ℕ) → s.known ≡ counts v → 1 ≤ v → holder d v all ≡ true) → (k : Knowledge) → s.known ≡ k →
        Steps.mending S.codec (setup S D) s d (on_drive d all) k ≡ Steps.mending S.codec (setup S D) s d all k
    leaving d h unsure e = refl
    leaving d h (writing o v c) e = refl
    leaving d h (counts v) e =
        ap (λ o. unless s (not (not (D.out d))) DriveOut o)
        ((λ i. mends s d v (place_part d v all i) (holder_part d v all i) (content_of S.codec (setup S D) v (on_drive d all))) ∙
        unworked s d v (place_for places d v all) (holder d v all) (content_of S.codec (setup S D) v (on_drive d all)) (content_of S.codec (setup S D) v all) (h v e))

pub few_suffice : FewSuffice
few_suffice S D s =
    record {
      write = λ d. ap (λ o. unless s (leb S.drives d) NoSuch o) (writing_part S D s d s.known);
      tidy = λ d. ap (λ o. unless s (leb S.drives d) NoSuch o) (tidying_part S D s d s.known);
      sweep = λ d. ap (λ o. unless s (leb S.drives d) NoSuch (unless s (not (not (D.out d))) DriveOut o)) (taking_part S D s d (λ r. ltb r.version s.bar));
      read = λ v m e h. subst (λ k. Steps.reading S.codec (setup S D) s (lowest m (readings_of S D)) k ≡ Steps.reading S.codec (setup S D) s (readings_of S D) k) (sym e) (ap (λ o. cond (eqb v 0) (Steps.tell s none) (Steps.read_as s v o)) (content_lowest S D v m h));
      unread = λ h rs. unread S D s h rs s.known refl;
      leave = λ d h. ap (λ o. unless s (leb S.drives d) NoSuch o) (leaving S D s d h s.known refl);
      mend = λ v d m e lacks h.
          subst (λ k. unless s (leb S.drives d) NoSuch (Steps.mending S.codec (setup S D) s d (on_drive d (readings_of S D) ++ lowest_but m d (readings_of S D)) k) ≡ unless s (leb S.drives d) NoSuch (Steps.mending S.codec (setup S D) s d (readings_of S D) k)) (sym e)
          (λ i. unless s (leb S.drives d) NoSuch (unless s (not (not (D.out d))) DriveOut (mends S D s d v (place_both S D v d m lacks i) (holder_both S D v d m lacks i) (content_both S D v d m lacks h i))));
    }
