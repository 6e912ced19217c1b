-- What acts do to the drives: an act is gentle if its place is spare and what comes is the right piece of a used version; gentle acts, whole or cut,
-- leave every place right and no drive weak that wasn't.
use Rattle.std.proofs.Common.{◌≡◌, ℕ, zero, suc, ◌<◌, ◌≤◌, Bool, true, false, cond, not, ◌&&◌, eqb, ◌⊎◌, List, [], ◌∷◌, map, Some, None, Option, sym, refl, ap, ◌∙◌, subst, inl, inr, arith}
use mathlib.Core.List.Memᴰ
use mathlib.Core.List.{Memᴰ}
use Rattle.std.proofs.lemmas.Bool.{false≢true, eqb-true, eq-eqb, and_parts, and_from, and_cases, not-false, or_parts, or_from, cases_eq}
use Rattle.keeper.specs.Object.{Reading, Act, write_slot, clear_slot, replace_file}
use Rattle.keeper.specs.Steps.{last_number}
use Rattle.recovery.specs.Disk.{Slot, empty, holds, Site, Disk, slot_at, at, placing, remember, begun_by, filing, perform, perform_all, OnceBegun, tear, MayLeave, cut, MayCut, has}
use Rattle.recovery.specs.Laws.{Content, Laws}
use Rattle.recovery.specs.World.{weak}
use Rattle.recovery.proofs.Readings.{Holding, has_holding, holding_has}
use Rattle.recovery.proofs.Invariant.{Right, Sound, Filed}

-- A table with another entry for one place: what holds of the entry there, and of the others elsewhere.
pub at_elim : {X : Type 0} (Q : X → Type 0) (d k : ℕ) (x : X) (f : ℕ → ℕ → X) (a b : ℕ) → (a ≡ d → b ≡ k → Q x) → ((a ≡ d → b ≡ k → ⊥) → Q (f a b)) → Q (at d k x f a b)
at_elim {X} Q d k x f a b here there = go (eqb a d && eqb b k) refl
  where
    go : (t : Bool) → (eqb a d && eqb b k) ≡ t → Q (cond t x (f a b))
    go true e = let q = and_parts (eqb a d) (eqb b k) e in here (eqb-true a d q.0) (eqb-true b k q.1)
    go false e = there (λ p q. false≢true (sym e ∙ and_from (eqb a d) (eqb b k) (eq-eqb a d p) (eq-eqb b k q)))

pub at_other : {X : Type 0} (d k : ℕ) (x : X) (f : ℕ → ℕ → X) (a b : ℕ) → (a ≡ d → b ≡ k → ⊥) → at d k x f a b ≡ f a b
at_other d k x f a b h = at_elim (λ y. y ≡ f a b) d k x f a b (λ p q. absurd (h p q)) (λ _. refl)

pub at_same : {X : Type 0} (d k : ℕ) (x : X) (f : ℕ → ℕ → X) → at d k x f d k ≡ x
at_same d k x f = at_elim (λ y. y ≡ x) d k x f d k (λ p q. refl) (λ h. absurd (h refl refl))

pub slot_other : (S : Site) (D : Disk) (d k : ℕ) (bs : List ℕ) (begun : List (ℕ × List ℕ)) (a b : ℕ) → (a ≡ d → b ≡ k → ⊥) → slot_at S (placing d k bs begun D) a b ≡ slot_at S D a b
slot_other S D d k bs begun a b h = ap (S.format.decode a) (at_other d k bs D.bytes a b h)

pub slot_same : (S : Site) (D : Disk) (d k : ℕ) (bs : List ℕ) (begun : List (ℕ × List ℕ)) → slot_at S (placing d k bs begun D) d k ≡ S.format.decode d bs
slot_same S D d k bs begun = ap (S.format.decode d) (at_same d k bs D.bytes)

-- Every place stays right if the changed one is.
sound_placing :
    {S : Site} {content : ℕ → Option (List ℕ)} {D : Disk} → Sound S content D → (d k : ℕ) (bs : List ℕ) (begun : List (ℕ × List ℕ)) → OnceBegun begun (S.format.decode d bs) →
    ((v : ℕ) (p : List ℕ) → Memᴰ (v, p) begun → Right S content d v p) → Sound S content (placing d k bs begun D)
sound_placing {S} {content} {D} h d k bs begun fits right = record { reads = reads'; right = right' }
  where
    reads' : (a b : ℕ) → OnceBegun (at d k begun D.once a b) (S.format.decode a (at d k bs D.bytes a b))
    reads' a b = go (eqb a d && eqb b k) refl
      where
        go : (t : Bool) → (eqb a d && eqb b k) ≡ t → OnceBegun (cond t begun (D.once a b)) (S.format.decode a (cond t bs (D.bytes a b)))
        go true e = subst (λ x. OnceBegun begun (S.format.decode x bs)) (sym (eqb-true a d (and_parts (eqb a d) (eqb b k) e).0)) fits
        go false e = h.reads a b

    right' : (a b v : ℕ) (p : List ℕ) → Memᴰ (v, p) (at d k begun D.once a b) → Right S content a v p
    right' a b v p = at_elim (λ l. Memᴰ (v, p) l → Right S content a v p) d k begun D.once a b (λ e f m. subst (λ x. Right S content x v p) (sym e) (right v p m)) (λ _ m. h.right a b v p m)

-- A drive isn't weak: it is in, and has the version last finished, if one was.
pub record Strong (S : Site) (D : Disk) (last d : ℕ) : Type 0 where
  pub is_in : D.out d ≡ false
  pub has : (last ≡ 0) ⊎ Holding S D d last

pub strong : (S : Site) (D : Disk) (last d : ℕ) → weak S D last d ≡ false → Strong S D last d
strong S D last d h =
    let q = or_parts (D.out d) (not (eqb last 0) && not (has S D d last)) h in
    record { is_in = q.0; has = go (and_cases (not (eqb last 0)) (not (has S D d last)) q.1) }
  where
    go : (not (eqb last 0) ≡ false) ⊎ (not (has S D d last) ≡ false) → (last ≡ 0) ⊎ Holding S D d last
    go (inl e) = inl (eqb-true last 0 (not-false (eqb last 0) e))
    go (inr e) = inr (has_holding S D d last (not-false (has S D d last) e))

pub not_weak : (S : Site) (D : Disk) (last d : ℕ) → Strong S D last d → weak S D last d ≡ false
not_weak S D last d h = or_from (D.out d) (not (eqb last 0) && not (has S D d last)) h.is_in (go h.has)
  where
    go : (last ≡ 0) ⊎ Holding S D d last → (not (eqb last 0) && not (has S D d last)) ≡ false
    go (inl e) = rw (eq-eqb last 0 e) refl
    go (inr e) = rw (holding_has S D d last e) (both (not (eqb last 0)))
      where
        both : (b : Bool) → (b && false) ≡ false
        both true = refl
        both false = refl

-- No drive becomes weak.
abbrev pub Keeps : (S : Site) (D : Disk) (last : ℕ) (D' : Disk) (last' : ℕ) → Type 0
Keeps S D last D' last' = (x : ℕ) → x < S.drives → Strong S D last x → Strong S D' last' x

-- The file has no part in that.
pub refiled : (S : Site) (D : Disk) (last number bar x : ℕ) → Strong S D last x → Strong S (filing number bar D) last x
refiled S D last number bar x h =
    record { is_in = h.is_in; has = elim h.has [ inl e ↦ inl e | inr e ↦ inr (record { place = e.place; low = e.low; piece = e.piece; slot = e.slot }) ] }

-- A place is spare: if the drive has the version last finished, it has it in another place.
pub record Elsewhere (S : Site) (D : Disk) (d k v : ℕ) : Type 0 where
  pub place : ℕ
  pub low : place < 4
  pub other : place ≡ k → ⊥
  pub piece : List ℕ
  pub slot : slot_at S D d place ≡ holds v piece

abbrev pub Spare : (S : Site) (D : Disk) (last d k : ℕ) → Type 0
Spare S D last d k = (last ≡ 0) ⊎ (Holding S D d last → Elsewhere S D d k last)

keeps_placing : (S : Site) (D : Disk) (last d k : ℕ) (bs : List ℕ) (begun : List (ℕ × List ℕ)) → Spare S D last d k → Keeps S D last (placing d k bs begun D) last
keeps_placing S D last d k bs begun spare x l h = record { is_in = h.is_in; has = go h.has spare }
  where
    D' : Disk
    D' = placing d k bs begun D

    there : Elsewhere S D d k last → x ≡ d → Holding S D' x last
    there e q =
        record {
          place = e.place;
          low = e.low;
          piece = e.piece;
          slot = slot_other S D d k bs begun x e.place (λ _ z. e.other z) ∙ subst (λ y. slot_at S D y e.place ≡ holds last e.piece) (sym q) e.slot;
        }

    still : Holding S D x last → (x ≡ d → ⊥) → Holding S D' x last
    still e q = record { place = e.place; low = e.low; piece = e.piece; slot = slot_other S D d k bs begun x e.place (λ z _. q z) ∙ e.slot }

    go : (last ≡ 0) ⊎ Holding S D x last → Spare S D last d k → (last ≡ 0) ⊎ Holding S D' x last
    go (inl e) s = inl e
    go (inr e) (inl s) = inl s
    go (inr e) (inr s) = inr (elim (cases_eq x d) [ inl q ↦ there (s (subst (λ y. Holding S D y last) q e)) q | inr q ↦ still e q ])

-- The place doesn't hold the version last finished.
abbrev pub NotLast : (S : Site) (D : Disk) (last d k : ℕ) → Type 0
NotLast S D last d k = (last ≡ 0) ⊎ ((p : List ℕ) → slot_at S D d k ≡ holds last p → ⊥)

pub spare_from : (S : Site) (D : Disk) (last d k : ℕ) → NotLast S D last d k → Spare S D last d k
spare_from S D last d k (inl e) = inl e
spare_from S D last d k (inr n) = inr (λ h. record { place = h.place; low = h.low; other = λ e. n h.piece (subst (λ y. slot_at S D d y ≡ holds last h.piece) e h.slot); piece = h.piece; slot = h.slot })

pub record Writes (S : Site) (content : ℕ → Option (List ℕ)) (last : ℕ) (D : Disk) (d k : ℕ) (bs : List ℕ) : Type 0 where
  pub inside : d < S.drives
  pub spare : Spare S D last d k
  pub version : ℕ
  pub whole : List ℕ
  pub used : content version ≡ Some whole
  pub fits : Content whole
  pub small : version < last_number
  pub bytes : bs ≡ S.codec.encode d version (S.codec.piece_of d whole)

pub record Clears (S : Site) (last : ℕ) (D : Disk) (d k : ℕ) : Type 0 where
  pub inside : d < S.drives
  pub not_last : NotLast S D last d k

pub record Files (low b m b' : ℕ) : Type 0 where
  pub number : low ≤ m
  pub bar : b' ≡ b

abbrev pub Gentle : (S : Site) (content : ℕ → Option (List ℕ)) (last low bar : ℕ) (D : Disk) → Act → Type 0
Gentle S content last low bar D (write_slot d k bs) = Writes S content last D d k bs
Gentle S content last low bar D (clear_slot d k) = Clears S last D d k
Gentle S content last low bar D (replace_file number bar') = Files low bar number bar'

unfoldable pub AllGentle : (S : Site) (content : ℕ → Option (List ℕ)) (last low bar : ℕ) → List Act → Disk → Type 0
AllGentle S content last low bar [] D = Unit {0}
AllGentle S content last low bar (a ∷ more) D = Gentle S content last low bar D a × AllGentle S content last low bar more (perform S a D)

-- Where gentle acts lead.
pub record Goes (S : Site) (content : ℕ → Option (List ℕ)) (last low bar : ℕ) (D D' : Disk) : Type 0 where
  pub sound : Sound S content D'
  pub filed : Filed low bar D'
  pub keeps : Keeps S D last D' last
  pub out : D'.out ≡ D.out

module _ (S : Site) (L : Laws S) (content : ℕ → Option (List ℕ)) (last low bar : ℕ) where
  pub stays : (D : Disk) → Sound S content D → Filed low bar D → Goes S content last low bar D D
  stays D s f = record { sound = s; filed = f; keeps = λ x l h. h; out = refl }

  -- what a write brings is right, and so is all that was once begun there
  remembered : (s : Slot) (begun : List (ℕ × List ℕ)) (d v : ℕ) (p : List ℕ) → s ≡ holds v p → Right S content d v p → ((x : ℕ) (q : List ℕ) → Memᴰ (x, q) begun → Right S content d x q) →
      (x : ℕ) (q : List ℕ) → Memᴰ (x, q) (remember s begun) → Right S content d x q
  remembered s begun d v p e r h x q m = go (Memᴰ.cases_cons (subst (λ t. Memᴰ (x, q) (remember t begun)) e m))
    where
      go : (◌≡◌ {A = ℕ × List ℕ} (x, q) (v, p)) ⊎ Memᴰ (x, q) begun → Right S content d x q
      go (inl f) = subst (λ (t : ℕ × List ℕ). Right S content d t.0 t.1) (sym f) r
      go (inr n) = h x q n

  written : (D : Disk) (d k : ℕ) (bs : List ℕ) (w : Writes S content last D d k bs) → S.format.decode d (S.format.lay bs (D.bytes d k)) ≡ holds w.version (S.codec.piece_of d w.whole)
  written D d k bs w =
      subst (λ b. S.format.decode d (S.format.lay b (D.bytes d k)) ≡ holds w.version (S.codec.piece_of d w.whole)) (sym w.bytes) (L.written d w.version w.whole (D.bytes d k) w.inside w.small w.fits)

  begun_right : (D : Disk) → Sound S content D → (d k : ℕ) (bs : List ℕ) → Writes S content last D d k bs → (x : ℕ) (q : List ℕ) → Memᴰ (x, q) (begun_by S d k bs D) → Right S content d x q
  begun_right D s d k bs w =
      remembered (S.format.decode d (S.format.lay bs (D.bytes d k))) (D.once d k) d w.version (S.codec.piece_of d w.whole) (written D d k bs w) (record { whole = w.whole; used = w.used; piece = refl }) (s.right d k)

  begun_first : (t : Slot) (begun : List (ℕ × List ℕ)) → OnceBegun (remember t begun) t
  begun_first empty begun = tt
  begun_first (holds v p) begun = Memᴰ.head refl

  pub goes : (a : Act) (D : Disk) → Sound S content D → Filed low bar D → Gentle S content last low bar D a → Goes S content last low bar D (perform S a D)
  goes (write_slot d k bs) D s f g =
      record {
        sound = sound_placing s d k (S.format.lay bs (D.bytes d k)) (begun_by S d k bs D) (begun_first (S.format.decode d (S.format.lay bs (D.bytes d k))) (D.once d k)) (begun_right D s d k bs g);
        filed = record { number = f.number; bar = f.bar };
        keeps = keeps_placing S D last d k (S.format.lay bs (D.bytes d k)) (begun_by S d k bs D) g.spare;
        out = refl;
      }
  goes (clear_slot d k) D s f g =
      record {
        sound = sound_placing s d k (S.format.wipe d (D.bytes d k)) (D.once d k) (subst (λ t. OnceBegun (D.once d k) t) (sym (L.wiped d (D.bytes d k) g.inside)) tt) (s.right d k);
        filed = record { number = f.number; bar = f.bar };
        keeps = keeps_placing S D last d k (S.format.wipe d (D.bytes d k)) (D.once d k) (spare_from S D last d k g.not_last);
        out = refl;
      }
  goes (replace_file number bar') D s f g =
      record {
        sound = record { reads = s.reads; right = s.right };
        filed = record { number = g.number; bar = g.bar };
        keeps = λ x l h. refiled S D last number bar' x h;
        out = refl;
      }

  torn : (m : List ℕ) (a : Act) (D : Disk) → Sound S content D → Filed low bar D → Gentle S content last low bar D a → MayLeave S m a D → Goes S content last low bar D (tear S m a D)
  torn m (write_slot d k bs) D s f g h =
      record {
        sound = sound_placing s d k m (begun_by S d k bs D) h (begun_right D s d k bs g);
        filed = record { number = f.number; bar = f.bar };
        keeps = keeps_placing S D last d k m (begun_by S d k bs D) g.spare;
        out = refl;
      }
  torn m (clear_slot d k) D s f g h =
      record {
        sound = sound_placing s d k m (D.once d k) h (s.right d k);
        filed = record { number = f.number; bar = f.bar };
        keeps = keeps_placing S D last d k m (D.once d k) (spare_from S D last d k g.not_last);
        out = refl;
      }
  torn m (replace_file number bar') D s f g h = stays D s f

  onward : (D E F : Disk) → Goes S content last low bar D E → Goes S content last low bar E F → Goes S content last low bar D F
  onward D E F g h = record { sound = h.sound; filed = h.filed; keeps = λ x l k. h.keeps x l (g.keeps x l k); out = h.out ∙ g.out }

  pub all_go : (as' : List Act) (D : Disk) → Sound S content D → Filed low bar D → AllGentle S content last low bar as' D → Goes S content last low bar D (perform_all S as' D)
  unfolding perform_all AllGentle
  all_go [] D s f g = stays D s f
  all_go (a ∷ more) D s f g =
      let h = goes a D s f g.0 in
      onward D (perform S a D) (perform_all S more (perform S a D)) h (all_go more (perform S a D) h.sound h.filed g.1)

  pub cut_goes : (as' : List Act) (n : ℕ) (left : Option (List ℕ)) (D : Disk) → Sound S content D → Filed low bar D → AllGentle S content last low bar as' D → MayCut S as' n left D → Goes S content last low bar D (cut S as' n left D)
  unfolding cut MayCut AllGentle
  cut_goes [] n left D s f g h = absurd h
  cut_goes (a ∷ more) zero None D s f g h = stays D s f
  cut_goes (a ∷ more) zero (Some m) D s f g h = torn m a D s f g.0 h
  cut_goes (a ∷ more) (suc n) left D s f g h =
      let k = goes a D s f g.0 in
      onward D (perform S a D) (cut S more n left (perform S a D)) k (cut_goes more n left (perform S a D) k.sound k.filed g.1 h)

  -- taking readings away, none of which is of the version last finished
  not_last_wiped : (D : Disk) (d k a b : ℕ) → d < S.drives → NotLast S D last a b → NotLast S (perform S (clear_slot d k) D) last a b
  not_last_wiped D d k a b l (inl e) = inl e
  not_last_wiped D d k a b l (inr h) =
      inr (λ p. at_elim (λ (bs : List ℕ). S.format.decode a bs ≡ holds last p → ⊥) d k (S.format.wipe d (D.bytes d k)) D.bytes a b
      (λ e f z. wipes (sym (L.wiped d (D.bytes d k) l) ∙ subst (λ x. S.format.decode x (S.format.wipe d (D.bytes d k)) ≡ holds last p) e z)) (λ _. h p))
    where
      wipes : {p : List ℕ} → empty ≡ holds last p → ⊥
      wipes e = let z : ◌≡◌ {A = ℕ} 0 1 = cc in omega arith

  pub clears_gentle : (rs : List Reading) (D : Disk) → ((r : Reading) → Memᴰ r rs → Clears S last D r.drive r.place) → AllGentle S content last low bar (map (λ r. clear_slot r.drive r.place) rs) D
  unfolding AllGentle
  clears_gentle [] D h = tt
  clears_gentle (r ∷ rs) D h =
      let here = h r (Memᴰ.head refl) in
      (here, clears_gentle rs (perform S (clear_slot r.drive r.place) D) (λ q m. let z = h q (Memᴰ.tail m) in record { inside = z.inside; not_last = not_last_wiped D r.drive r.place q.drive q.place here.inside z.not_last }))
