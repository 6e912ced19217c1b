-- The keeper can always go on.
use Rattle.std.proofs.Common.{◌≡◌, ℕ, zero, suc, ◌+◌, ◌<◌, ◌≤◌, Bool, true, false, cond, not, ◌&&◌, ◌||◌, eqb, ltb, leb, ◌⊎◌, List, [], ◌∷◌, ◌++◌, Some, None, Option, sym, refl, ◌∙◌, subst, inl, inr, arith}
use Rattle.std.proofs.lemmas.Bool.{false≢true, true≢false, eqb-true, eq-eqb, ne_eqb, lt-leb, le-ltb, not-false, not_from_true, and_from, and_cases, or_cases, cases_eq}
use Rattle.keeper.specs.Object.{Knowledge, unsure, counts, writing, Reading, write_slot, replace_file, done, is_version, mended, State, Outcome, refuse}
use Rattle.keeper.specs.Readings.{holder, place_for, clears, how_many_in, all_have}
use Rattle.keeper.specs.Steps
use Rattle.keeper.specs.Steps.{Found, places, last_number, stride}
use Rattle.keeper.specs.declared.refusal.Refusal.TheVariants.{NoSuch, DriveOut, NotEverywhere, TooFewIn, NoMoreVersions}
use Rattle.recovery.specs.Disk.{holds, Site, Disk, slot_at, has, begun_by, perform, perform_all}
use Rattle.recovery.specs.Laws.{Laws}
use Rattle.recovery.specs.World.{World, write, finish, tidy, mend, give_up, settle, setup, weak}
use Rattle.recovery.specs.Events.{stepped}
use Rattle.recovery.specs.Progress.{BySteps, here, then, Counting, CanGoOn, GoesOn}
use Rattle.recovery.proofs.Lists.{how_many_mono, how_many_not}
use Rattle.recovery.proofs.Readings.{mem_read, Holding, holding_has, holding_holder, holder_holding}
use Rattle.recovery.proofs.Invariant.{Inv, Writing, Knowing, LastIsBar, readings, is_in, worked_out, best}
use Rattle.recovery.proofs.Acts.{slot_other, slot_same}
use Rattle.recovery.proofs.Cleared.{Spared, spared, clears_keep}
use Rattle.recovery.proofs.Places.{room, place_low}
use Rattle.recovery.proofs.Steps.{step_well, in_how_many}
use Rattle.recovery.proofs.Runs.{run_inv}
use Rattle.recovery.proofs.Safe.{counted, last_used_lem, last_works}

-- A property of an outcome behind tests that are known.
passes : (Q : Outcome → Type 0) (b : Bool) (x y : Outcome) → b ≡ false → Q y → Q (cond b x y)
passes Q true x y e q = absurd (true≢false e)
passes Q false x y e q = q

in_test : (b : Bool) → b ≡ false → not (not b) ≡ false
in_test b e = rw e refl

-- What stands on the drives that are in is of one of three versions.
abbrev Few : Site → Disk → (a b v : ℕ) → Type 0
Few S D a b v = (d k x : ℕ) (p : List ℕ) → d < S.drives → k < 4 → D.out d ≡ false → slot_at S D d k ≡ holds x p → (x ≡ a) ⊎ ((x ≡ b) ⊎ (x ≡ v))

-- The new version is written to the drives below i that are in, and there is room on the others.
record Half (S : Site) (D : Disk) (s : State) (o v : ℕ) (c : List ℕ) (a b i : ℕ) : Type 0 where
  known : s.known ≡ writing o v c
  few : Few S D a b v
  have : (d : ℕ) → d < i → D.out d ≡ false → Holding S D d v

module _ (S : Site) (L : Laws S) where
  -- one more drive
  wrote : (w : World) → Inv S w → (o v : ℕ) (c : List ℕ) (a b i : ℕ) → i < S.drives → Half S w.disk w.state o v c a b i → Half S (stepped S (write i) w).disk (stepped S (write i) w).state o v c a b (suc i)
  unfolding perform_all
  wrote w I o v c a b i l h =
      passes Q (leb S.drives i) (refuse w.state NoSuch) (Steps.writing_to S.codec (setup S w.disk) w.state i (readings S w) w.state.known) (lt-leb S.drives i l)
      (subst (λ k. Q (Steps.writing_to S.codec (setup S w.disk) w.state i (readings S w) k)) (sym h.known) (tested (w.disk.out i) refl))
    where
      Q : Outcome → Type 0
      Q x = Half S (perform_all S x.acts w.disk) x.state o v c a b (suc i)

      bytes : List ℕ
      bytes = S.codec.encode i v (S.codec.piece_of i c)

      z : Writing w.past w.state v c
      z = subst (Knowing w.past w.state) h.known I.consistent.known

      place : (k : ℕ) × (place_for places i v (readings S w) ≡ Some k)
      place = room (readings S w) i v a b (λ r m e. let q = mem_read S w.disk m in h.few r.drive r.place r.version r.piece q.inside q.low q.is_in q.slot)

      reads : (k : ℕ) → slot_at S (perform S (write_slot i k bytes) w.disk) i k ≡ holds v (S.codec.piece_of i c)
      reads k =
          let u = I.consistent.used v c z.used in
          slot_same S w.disk i k (S.format.lay bytes (w.disk.bytes i k)) (begun_by S i k bytes w.disk) ∙ L.written i v c (w.disk.bytes i k) l u.small u.content

      elsewhere : (k d j : ℕ) → (d ≡ i → j ≡ k → ⊥) → slot_at S (perform S (write_slot i k bytes) w.disk) d j ≡ slot_at S w.disk d j
      elsewhere k d j n = slot_other S w.disk i k (S.format.lay bytes (w.disk.bytes i k)) (begun_by S i k bytes w.disk) d j n

      spot : (k d j : ℕ) → ((d ≡ i) × (j ≡ k)) ⊎ (d ≡ i → j ≡ k → ⊥)
      spot k d j = elim (cases_eq d i) [ inl e ↦ elim (cases_eq j k) [ inl f ↦ inl (e, f) | inr f ↦ inr (λ _ g. f g) ] | inr e ↦ inr (λ g _. e g) ]

      written : (k : ℕ) → k < 4 → Q (record { reply = done; acts = write_slot i k bytes ∷ []; state = w.state })
      written k low =
          record {
            known = h.known;
            few = λ d j x p m n out e. elim (spot k d j) [
              | inl q ↦ inr (inr (versions (sym (reads k) ∙ subst (λ y. slot_at S (perform S (write_slot i k bytes) w.disk) i y ≡ holds x p) q.1 (subst (λ y. slot_at S (perform S (write_slot i k bytes) w.disk) y j ≡ holds x p) q.0 e))))
              | inr q ↦ h.few d j x p m n out (sym (elsewhere k d j q) ∙ e)
            ];
            have = have';
          }
        where
          versions : {x : ℕ} {p q : List ℕ} → holds v p ≡ holds x q → x ≡ v
          versions t = cc

          have' : (d : ℕ) → d < suc i → w.disk.out d ≡ false → Holding S (perform S (write_slot i k bytes) w.disk) d v
          have' d m out =
              elim (cases_eq d i) [
                | inl e ↦ record { place = k; low = low; piece = S.codec.piece_of i c; slot = subst (λ y. slot_at S (perform S (write_slot i k bytes) w.disk) y k ≡ holds v (S.codec.piece_of i c)) (sym e) (reads k) }
                | inr e ↦ (let q = h.have d (omega arith) out in record { place = q.place; low = q.low; piece = q.piece; slot = elsewhere k d q.place (λ f _. e f) ∙ q.slot })
              ]

      put : (p : Option ℕ) → place_for places i v (readings S w) ≡ p → Q (Steps.write_at S.codec w.state i v c done p)
      put None e = let q : ◌≡◌ {A = ℕ} 0 1 = (let f = sym e ∙ place.1 in cc) in absurd (omega arith)
      put (Some k) e = written k (place_low S w.disk i v k e)

      tested : (t : Bool) → w.disk.out i ≡ t → Q (cond (not (not t)) (refuse w.state DriveOut) (Steps.write_at S.codec w.state i v c done (place_for places i v (readings S w))))
      tested true e = record { known = h.known; few = h.few; have = λ d m out. elim (cases_eq d i) [ inl f ↦ absurd (true≢false (sym e ∙ subst (λ y. w.disk.out y ≡ false) f out)) | inr f ↦ h.have d (omega arith) out ] }
      tested false e = put (place_for places i v (readings S w)) refl

  record Written (w₀ : World) (o v : ℕ) (c : List ℕ) (a b : ℕ) : Type 0 where
    later : World
    steps : BySteps S w₀ later
    inv : Inv S later
    half : Half S later.disk later.state o v c a b S.drives

  -- all drives
  wrote_all : (w₀ : World) (o v : ℕ) (c : List ℕ) (a b m i : ℕ) → i + m ≡ S.drives → (w : World) → BySteps S w₀ w → Inv S w → Half S w.disk w.state o v c a b i → Written w₀ o v c a b
  wrote_all w₀ o v c a b zero i e w steps I h = record { later = w; steps = steps; inv = I; half = subst (Half S w.disk w.state o v c a b) (let same : i ≡ S.drives = omega arith in same) h }
  wrote_all w₀ o v c a b (suc m) i e w steps I h =
      wrote_all w₀ o v c a b m (suc i) (omega arith) (stepped S (write i) w) (then steps (write i) tt) (step_well S L w I (write i) tt).inv (wrote w I o v c a b i (omega arith) h)

  have_all : (n : ℕ) (is_in : ℕ → Bool) (v : ℕ) (rs : List Reading) → ((d : ℕ) → d < n → is_in d ≡ true → holder d v rs ≡ true) → all_have n is_in v rs ≡ true
  unfolding all_have
  have_all zero is_in v rs h = refl
  have_all (suc n) is_in v rs h = and_from (not (is_in n) || holder n v rs) (all_have n is_in v rs) (go (is_in n) refl) (have_all n is_in v rs (λ d l. h d (omega arith)))
    where
      go : (b : Bool) → is_in n ≡ b → (not b || holder n v rs) ≡ true
      go true e = h n (omega arith) e
      go false e = refl

  in_not_out : (b : Bool) → not b ≡ true → b ≡ false
  in_not_out true e = absurd (false≢true e)
  in_not_out false e = refl

  finishes : (w : World) → Inv S w → (o v : ℕ) (c : List ℕ) (a b : ℕ) → Half S w.disk w.state o v c a b S.drives → (stepped S finish w).state.known ≡ counts v
  finishes w I o v c a b h =
      subst (λ k. Q (Steps.finishing (setup S w.disk) w.state (readings S w) k)) (sym h.known)
      (passes Q (not (all_have S.drives (is_in w) v (readings S w))) (refuse w.state NotEverywhere) rest (not_from_true (all_have S.drives (is_in w) v (readings S w)) all)
      (passes Q (ltb (how_many_in S.drives (is_in w)) S.need) (refuse w.state TooFewIn) now (le-ltb (how_many_in S.drives (is_in w)) S.need enough) refl))
    where
      Q : Outcome → Type 0
      Q x = x.state.known ≡ counts v

      now : Outcome
      now = record { reply = is_version v; acts = replace_file w.state.number v ∷ []; state = Steps.counting w.state v }

      rest : Outcome
      rest = cond (ltb (how_many_in S.drives (is_in w)) S.need) (refuse w.state TooFewIn) now

      all : all_have S.drives (is_in w) v (readings S w) ≡ true
      all = have_all S.drives (is_in w) v (readings S w) (λ d l e. let i = in_not_out (w.disk.out d) e in holding_holder S w.disk d v l i (h.have d l i))

      out_weak : (d : ℕ) → d < S.drives → w.disk.out d ≡ true → weak S w.disk w.past.last d ≡ true
      out_weak d l e = rw e refl

      enough : S.need ≤ how_many_in S.drives (is_in w)
      enough =
          let x = how_many_mono S.drives w.disk.out (weak S w.disk w.past.last) out_weak in
          let y = how_many_not S.drives w.disk.out in
          let z = in_how_many S.drives (is_in w) in
          let t = I.bearable in
          omega arith

  -- Settling isn't refused: nothing is found, or a new version is begun, with room for it on every drive.
  record Begun (D : Disk) (s : State) : Type 0 where
    old : ℕ
    new : ℕ
    content : List ℕ
    first : ℕ
    second : ℕ
    half : Half S D s old new content first second 0

  settled : (w : World) → w.state.known ≡ unsure → w.state.next < last_number → ((stepped S settle w).state.known ≡ counts 0) ⊎ Begun (stepped S settle w).disk (stepped S settle w).state
  unfolding perform_all
  settled w e small =
      subst (λ k. Q (Steps.settling S.codec (setup S w.disk) w.state (readings S w) k)) (sym e)
      (passes Q (leb last_number w.state.next) (refuse w.state NoMoreVersions) (Steps.settling_on w.state (readings S w) (best S w)) (lt-leb last_number w.state.next small) (go (best S w)))
    where
      Q : Outcome → Type 0
      Q x = (x.state.known ≡ counts 0) ⊎ Begun (perform_all S x.acts w.disk) x.state

      few_left : (f : ℕ × List ℕ) (t : Bool) → Few S (perform_all S (cond t (replace_file (w.state.number + stride) w.state.bar ∷ []) [] ++ clears (λ r. not (eqb r.version f.0 || eqb r.version w.state.bar)) (readings S w)) w.disk) f.0 w.state.bar w.state.next
      few_left f t d k x p l low out q = named (which t out q)
        where
          rule : Reading → Bool
          rule r = not (eqb r.version f.0 || eqb r.version w.state.bar)

          which : (t : Bool) → (perform_all S (cond t (replace_file (w.state.number + stride) w.state.bar ∷ []) [] ++ clears rule (readings S w)) w.disk).out d ≡ false →
              slot_at S (perform_all S (cond t (replace_file (w.state.number + stride) w.state.bar ∷ []) [] ++ clears rule (readings S w)) w.disk) d k ≡ holds x p → Spared S w.disk rule d k x p
          which true i y = spared S L w.disk rule (w.state.number + stride) w.state.bar d k x p l low (subst (λ (g : ℕ → Bool). g d ≡ false) (clears_keep S w.disk rule (w.state.number + stride) w.state.bar) i) y
          which false i y = spared S L w.disk rule w.disk.number w.disk.bar d k x p l low (subst (λ (g : ℕ → Bool). g d ≡ false) (clears_keep S w.disk rule w.disk.number w.disk.bar) i) y

          named : Spared S w.disk rule d k x p → (x ≡ f.0) ⊎ ((x ≡ w.state.bar) ⊎ (x ≡ w.state.next))
          named z =
              elim (or_cases (eqb x f.0) (eqb x w.state.bar) (not-false (eqb x f.0 || eqb x w.state.bar) z.unnamed)) [
                | inl y ↦ inl (eqb-true x f.0 y)
                | inr y ↦ inr (inl (eqb-true x w.state.bar y))
              ]

      go : (f : Found) → Q (Steps.settling_on w.state (readings S w) f)
      go None = inl refl
      go (Some f) =
          inr (record {
            old = f.0;
            new = w.state.next;
            content = f.1;
            first = f.0;
            second = w.state.bar;
            half = record { known = refl; few = few_left f (leb w.state.number w.state.next); have = λ d l. absurd (omega arith) };
          })

  count_from : (w₀ w : World) → BySteps S w₀ w → Inv S w → w.state.known ≡ unsure → w.state.next < last_number → Counting S w₀
  count_from w₀ w steps I e small = go (settled w e small)
    where
      go : ((stepped S settle w).state.known ≡ counts 0) ⊎ Begun (stepped S settle w).disk (stepped S settle w).state → Counting S w₀
      go (inl z) = record { later = stepped S settle w; steps = then steps settle tt; version = 0; counted = z }
      go (inr z) =
          let t = wrote_all w₀ z.old z.new z.content z.first z.second S.drives 0 (omega arith) (stepped S settle w) (then steps settle tt) (step_well S L w I settle tt).inv z.half in
          record { later = stepped S finish t.later; steps = then t.steps finish tt; version = z.new; counted = finishes t.later t.inv z.old z.new z.content z.first z.second t.half }

  can_count : (w : World) → Inv S w → w.state.next < last_number → Counting S w
  can_count w I small = go w.state.known refl
    where
      given : (o v : ℕ) (c : List ℕ) → w.state.known ≡ writing o v c → ((stepped S give_up w).state.known ≡ unsure) × ((stepped S give_up w).state.next ≡ w.state.next)
      given o v c e = subst (λ k. ((Steps.giving_up w.state k).state.known ≡ unsure) × ((Steps.giving_up w.state k).state.next ≡ w.state.next)) (sym e) (refl, refl)

      go : (k : Knowledge) → w.state.known ≡ k → Counting S w
      go unsure e = count_from w w here I e small
      go (counts v) e = record { later = w; steps = here; version = v; counted = e }
      go (writing o v c) e =
          let z = given o v c e in
          count_from w (stepped S give_up w) (then here give_up tt) (step_well S L w I give_up tt).inv z.0 (subst (λ n. n < last_number) (sym z.1) small)

  -- A drive that was tidied has nothing but the version that counts.
  record Tidied (D : Disk) (s : State) (d v : ℕ) : Type 0 where
    known : s.known ≡ counts v
    is_in : D.out d ≡ false
    only : (k y : ℕ) (p : List ℕ) → k < 4 → slot_at S D d k ≡ holds y p → y ≡ v

  tidied : (w : World) (v d : ℕ) → w.state.known ≡ counts v → d < S.drives → w.disk.out d ≡ false → Tidied (stepped S (tidy d) w).disk (stepped S (tidy d) w).state d v
  tidied w v d e l i =
      passes Q (leb S.drives d) (refuse w.state NoSuch) (Steps.tidying (setup S w.disk) w.state d (readings S w) w.state.known) (lt-leb S.drives d l)
      (subst (λ k. Q (Steps.tidying (setup S w.disk) w.state d (readings S w) k)) (sym e)
      (passes Q (not (not (w.disk.out d))) (refuse w.state DriveOut) (Steps.take_away w.state rule (readings S w)) (in_test (w.disk.out d) i)
      (record {
        known = e;
        is_in = subst (λ (g : ℕ → Bool). g d ≡ false) (sym (clears_keep S w.disk rule w.disk.number w.disk.bar)) i;
        only = λ k y p low q. named k y p (spared S L w.disk rule w.disk.number w.disk.bar d k y p l low i q);
      })))
    where
      rule : Reading → Bool
      rule r = eqb r.drive d && not (eqb r.version v)

      Q : Outcome → Type 0
      Q x = Tidied (perform_all S x.acts w.disk) x.state d v

      named : (k y : ℕ) (p : List ℕ) → Spared S w.disk rule d k y p → y ≡ v
      named k y p z =
          elim (and_cases (eqb d d) (not (eqb y v)) z.unnamed) [
            | inl q ↦ absurd (true≢false (sym (eq-eqb d d refl) ∙ q))
            | inr q ↦ eqb-true y v (not-false (eqb y v) q)
          ]

  mended_has : (w : World) → Inv S w → (v d : ℕ) → 1 ≤ v → d < S.drives → Tidied w.disk w.state d v → has S (stepped S (mend d) w).disk d v ≡ true
  unfolding perform_all
  mended_has w I v d one l t =
      passes Q (leb S.drives d) (refuse w.state NoSuch) (Steps.mending S.codec (setup S w.disk) w.state d (readings S w) w.state.known) (lt-leb S.drives d l)
      (subst (λ k. Q (Steps.mending S.codec (setup S w.disk) w.state d (readings S w) k)) (sym t.known)
      (passes Q (not (not (w.disk.out d))) (refuse w.state DriveOut) onward (in_test (w.disk.out d) t.is_in)
      (passes Q (eqb v 0) (Steps.nothing_to_mend w.state (place_for places d v (readings S w))) held (ne_eqb v 0 (λ z. omega arith)) (go (holder d v (readings S w)) refl))))
    where
      Q : Outcome → Type 0
      Q x = has S (perform_all S x.acts w.disk) d v ≡ true

      again : Outcome
      again = Steps.remake S.codec w.state d v (place_for places d v (readings S w)) (worked_out S w v)

      held : Outcome
      held = cond (holder d v (readings S w)) (Steps.tell w.state (mended 0)) again

      onward : Outcome
      onward = cond (eqb v 0) (Steps.nothing_to_mend w.state (place_for places d v (readings S w))) held

      same : v ≡ w.past.last
      same = counted S L w I v t.known

      last' : LastIsBar w.past w.state
      last' = last_used_lem S L w I (omega (arith, same))

      whole : List ℕ
      whole = (last_used_lem S L w I (omega (arith, same))).content

      used : w.past.content v ≡ Some whole
      used = subst (λ x. w.past.content x ≡ Some whole) (sym same) (last_used_lem S L w I (omega (arith, same))).used

      works : worked_out S w v ≡ Some whole
      works = subst (λ x. worked_out S w x ≡ Some whole) (sym same) (last_works S L w I (omega (arith, same)))

      place : (k : ℕ) × (place_for places d v (readings S w) ≡ Some k)
      place = room (readings S w) d v v v (λ r m e. let q = mem_read S w.disk m in inl (t.only r.place r.version r.piece q.low (subst (λ x. slot_at S w.disk x r.place ≡ holds r.version r.piece) e q.slot)))

      written : (k : ℕ) → k < 4 → Q (Steps.remake S.codec w.state d v (Some k) (Some whole))
      written k low =
          let u = I.consistent.used v whole used in
          holding_has S (perform S (write_slot d k (S.codec.encode d v (S.codec.piece_of d whole))) w.disk) d v
          (record {
            place = k;
            low = low;
            piece = S.codec.piece_of d whole;
            slot = slot_same S w.disk d k (S.format.lay (S.codec.encode d v (S.codec.piece_of d whole)) (w.disk.bytes d k)) (begun_by S d k (S.codec.encode d v (S.codec.piece_of d whole)) w.disk) ∙ L.written d v whole (w.disk.bytes d k) l u.small u.content;
          })

      go : (b : Bool) → holder d v (readings S w) ≡ b → Q (cond b (Steps.tell w.state (mended 0)) again)
      go true e = holding_has S w.disk d v (holder_holding S w.disk d v e).0
      go false e =
          subst (λ p. Q (Steps.remake S.codec w.state d v p (worked_out S w v))) (sym place.1)
          (subst (λ o. Q (Steps.remake S.codec w.state d v (Some place.0) o)) (sym works) (written place.0 (place_low S w.disk d v place.0 place.1)))

  pub goes_on_from : (w : World) → Inv S w → CanGoOn S w
  goes_on_from w I =
      record {
        settles = λ e small z. refuted (settled w e small) z;
        counting = can_count w I;
        mends = λ v d e one l i. mended_has (stepped S (tidy d) w) (step_well S L w I (tidy d) tt).inv v d one l (tidied w v d e l i);
      }
    where
      refuted : ((stepped S settle w).state.known ≡ counts 0) ⊎ Begun (stepped S settle w).disk (stepped S settle w).state → (stepped S settle w).state.known ≡ unsure → ⊥
      refuted (inl e) z = let q : ◌≡◌ {A = ℕ} 0 1 = (let f = sym e ∙ z in cc) in omega arith
      refuted (inr b) z = let q : ◌≡◌ {A = ℕ} 0 1 = (let f = sym b.half.known ∙ z in cc) in omega arith

pub goes_on : GoesOn
goes_on S L w r = goes_on_from S L w (run_inv L r)
