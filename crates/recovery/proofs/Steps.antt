-- Every step of the keeper is well done.
use Rattle.std.proofs.Common.{◌≡◌, ℕ, zero, suc, ◌+◌, ◌<◌, ◌≤◌, Bool, true, false, cond, not, ◌&&◌, ◌||◌, eqb, ltb, leb, ◌⊎◌, List, [], ◌∷◌, ◌++◌, length, Some, None, filter, Option, sym, refl, ap, ◌∙◌, subst, inl, inr, arith}
use mathlib.Core.List.Memᴰ
use mathlib.Core.List.{Memᴰ}
use Rattle.std.proofs.lemmas.List.{append-nil}
use Rattle.std.proofs.lemmas.Bool.{true≢false, eqb-false, leb-false, ltb-true, ltb-false, not-true, not-false, not_from_false, and_parts, or_parts, or_cases, cases_eq}
use Rattle.keeper.specs.Object.{Knowledge, unsure, counts, writing, Reading, write_slot, replace_file, Reply, refused, done, is_version, has, none, removed, mended, Outcome}
use Rattle.keeper.specs.Readings.{holder, place_for, clears, how_many_in, all_have, free_place, own_place}
use Rattle.keeper.specs.Steps
use Rattle.keeper.specs.Steps.{Found, places, longest, last_number, raised, reserve, writing_on, unless, counting, highest}
use Rattle.keeper.specs.declared.refusal.Refusal.TheVariants.{NoSuch, TooLong, Unsure, BeingWritten, NotBeingWritten, NotUnsure, DriveOut, NoPlace, NotEverywhere, TooFewIn, TooFewPieces, CountsNone, NoMoreVersions}
use Rattle.recovery.specs.Disk.{holds, Site, Disk, slot_at, readings_of, how_many, filing, perform_all}
use Rattle.recovery.specs.Laws.{Content, Laws}
use Rattle.recovery.specs.World.{Past, World, Call, begin, write, finish, read, tidy, sweep, mend, give_up, settle, setup, outcome_of, Backed, using', weak}
use Rattle.recovery.specs.Events.{Given}
use Rattle.recovery.proofs.Lists.{how_many_mono, how_many_not, mem_kept}
use Rattle.recovery.proofs.Readings.{mem_read, holder_holding}
use Rattle.recovery.proofs.Invariant.{Used, Writing, Knowing, LastIsBar, Inv, readings, is_in, worked_out, best}
use Rattle.recovery.proofs.Acts.{Strong, not_weak, Keeps, refiled, NotLast, Spare, Clears, AllGentle, clears_gentle}
use Rattle.recovery.proofs.Work.{works_out, worked, pieces_enough}
use Rattle.recovery.proofs.Highest.{Good, AllGood, AtLeast, highest_good, highest_covers}
use Rattle.recovery.proofs.Places.{free_place_lem, free_spare, place_spare}
use Rattle.recovery.proofs.Well.{bearable_kept, Well, using_old, unsure_consistent, unless_elim, raised_above, acting, idle, reserved, starting, Gently, Leads}

-- What the tests of finish say.
all_have_lem : (n : ℕ) (is_in : ℕ → Bool) (v : ℕ) (rs : List Reading) → all_have n is_in v rs ≡ true → (d : ℕ) → d < n → is_in d ≡ true → holder d v rs ≡ true
unfolding all_have
all_have_lem zero is_in v rs h d l e = absurd (omega arith)
all_have_lem (suc n) is_in v rs h d l e = go (cases_eq d n) (all_have_lem n is_in v rs q.1 d)
  where
    q : ((not (is_in n) || holder n v rs) ≡ true) × (all_have n is_in v rs ≡ true)
    q = and_parts (not (is_in n) || holder n v rs) (all_have n is_in v rs) h

    go : (d ≡ n) ⊎ (d ≡ n → ⊥) → (d < n → is_in d ≡ true → holder d v rs ≡ true) → holder d v rs ≡ true
    go (inr z) f = f (omega arith) e
    go (inl z) f =
        elim (or_cases (not (is_in n)) (holder n v rs) q.0) [
          | inl y ↦ absurd (true≢false (sym (subst (λ x. is_in x ≡ true) z e) ∙ not-true (is_in n) y))
          | inr y ↦ subst (λ x. holder x v rs ≡ true) (sym z) y
        ]

pub in_how_many : (n : ℕ) (p : ℕ → Bool) → how_many_in n p ≡ how_many n p
unfolding how_many_in how_many
in_how_many zero p = refl
in_how_many (suc n) p = ap (λ x. cond (p n) 1 0 + x) (in_how_many n p)

-- The readings that a rule names and that aren't of the version last finished can be taken away gently.
clearable : (S : Site) (D : Disk) (last : ℕ) (rule : Reading → Bool) → ((r : Reading) → rule r ≡ true → (last ≡ 0) ⊎ (r.version ≡ last → ⊥)) →
    (m b : ℕ) (r : Reading) → Memᴰ r (filter rule (readings_of S D)) → Clears S last (filing m b D) r.drive r.place
clearable S D last rule h m b r k =
    let q = mem_kept rule (readings_of S D) k in
    let z = mem_read S D q.0 in
    record { inside = z.inside; not_last = go (h r q.1) z.slot }
  where
    go : (last ≡ 0) ⊎ (r.version ≡ last → ⊥) → slot_at S D r.drive r.place ≡ holds r.version r.piece → NotLast S (filing m b D) last r.drive r.place
    go (inl e) s = inl e
    go (inr n) s = inr (λ p t. n (versions p (sym s ∙ t)))
      where
        versions : (p : List ℕ) → holds r.version r.piece ≡ holds last p → r.version ≡ last
        versions p t = cc

module _ (S : Site) (L : Laws S) (w : World) (I : Inv S w) where
  last_below : w.past.last < w.state.next
  last_below = elim I.consistent.last [ inl e ↦ omega (arith, e, I.consistent.bar) | inr e ↦ omega (arith, e.bar, I.consistent.bar) ]

  fits : (v : ℕ) (c : List ℕ) → w.past.content v ≡ Some c → Content c
  fits v c h = (I.consistent.used v c h).content

  -- begin
  beginning_well : (c : List ℕ) → Content c → (k : Knowledge) → w.state.known ≡ k → Well S w k (Steps.beginning w.state c k)
  beginning_well c f unsure e = idle S L w I unsure e (refused Unsure)
  beginning_well c f (writing o v x) e = idle S L w I (writing o v x) e (refused BeingWritten)
  beginning_well c f (counts v) e = unless_elim (Well S w (counts v)) w.state (leb last_number w.state.next) NoMoreVersions (record { reply = is_version w.state.next; acts = reserve w.state; state = writing_on w.state v c }) (idle S L w I (counts v) e (refused NoMoreVersions)) go
    where
      z : Gently S w (reserve w.state) × Leads S w (raised w.state) (perform_all S (reserve w.state) w.disk)
      z =
          subst (λ l. Gently S w l × Leads S w (raised w.state) (perform_all S l w.disk)) (append-nil (reserve w.state))
          (reserved S L w I [] (λ low m b. nothing low (filing m b w.disk)))
        where
          nothing : (low : ℕ) (D : Disk) → AllGentle S w.past.content w.past.last low w.state.bar [] D
          nothing low D = clears_gentle S L w.past.content w.past.last low w.state.bar [] D (λ r m. absurd (Memᴰ.not-nil m))

      go : leb last_number w.state.next ≡ false → Well S w (counts v) (record { reply = is_version w.state.next; acts = reserve w.state; state = writing_on w.state v c })
      go h = starting S L w I v c (c ∷ w.past.begun) (reserve w.state) (λ x m. Memᴰ.tail m) f (leb-false last_number w.state.next h) (inr (Memᴰ.head refl)) z.0 z.1

  begin_well : (c : List ℕ) → Given (begin c) → Well S w w.state.known (Steps.begin w.state c)
  begin_well c g = unless_elim (Well S w w.state.known) w.state (ltb longest (length c)) TooLong (Steps.beginning w.state c w.state.known) (idle S L w I w.state.known refl (refused TooLong)) (λ h. beginning_well c (record { bytes = g; short = ltb-false longest (length c) h }) w.state.known refl)

  -- writing one piece of a used version to a spare place
  unfolded_write : (k : Knowledge) → w.state.known ≡ k → (r : Reply) (d v x : ℕ) (c : List ℕ) → d < S.drives → Spare S w.disk w.past.last d x → w.past.content v ≡ Some c →
      Well S w k (record { reply = r; acts = write_slot d x (S.codec.encode d v (S.codec.piece_of d c)) ∷ []; state = w.state })
  unfolding AllGentle
  unfolded_write k e r d v x c l spare u =
      acting S L w I k e r (write_slot d x (S.codec.encode d v (S.codec.piece_of d c)) ∷ [])
      (record { inside = l; spare = spare; version = v; whole = c; used = u; fits = fits v c u; small = (I.consistent.used v c u).small; bytes = refl }, tt)

  drive_in : (d : ℕ) → not (not (w.disk.out d)) ≡ false → w.disk.out d ≡ false
  drive_in d h = go (w.disk.out d) h
    where
      go : (b : Bool) → not (not b) ≡ false → b ≡ false
      go true e = absurd (true≢false e)
      go false e = refl

  known_writing : (o v : ℕ) (c : List ℕ) → w.state.known ≡ writing o v c → Writing w.past w.state v c
  known_writing o v c e = subst (Knowing w.past w.state) e I.consistent.known

  known_counts : (v : ℕ) → w.state.known ≡ counts v → v ≡ w.past.last
  known_counts v e = subst (Knowing w.past w.state) e I.consistent.known

  writing_last : (o v : ℕ) (c : List ℕ) → w.state.known ≡ writing o v c → v ≡ w.past.last → ⊥
  writing_last o v c e q =
      let z = known_writing o v c e in
      elim I.consistent.last [ inl f ↦ omega (arith, q, f, z.above) | inr f ↦ omega (arith, q, f.bar, z.above) ]

  write_at_lem : (k : Knowledge) → w.state.known ≡ k → (r : Reply) (d v : ℕ) (c : List ℕ) → d < S.drives → w.past.content v ≡ Some c → (p : Option ℕ) → ((x : ℕ) → p ≡ Some x → Spare S w.disk w.past.last d x) → Well S w k (Steps.write_at S.codec w.state d v c r p)
  write_at_lem k e r d v c l u None h = idle S L w I k e (refused NoPlace)
  write_at_lem k e r d v c l u (Some x) h = unfolded_write k e r d v x c l (h x refl) u

  writing_well : (d : ℕ) → d < S.drives → (k : Knowledge) → w.state.known ≡ k → Well S w k (Steps.writing_to S.codec (setup S w.disk) w.state d (readings S w) k)
  writing_well d l unsure e = idle S L w I unsure e (refused NotBeingWritten)
  writing_well d l (counts v) e = idle S L w I (counts v) e (refused NotBeingWritten)
  writing_well d l (writing o v c) e =
      unless_elim (Well S w (writing o v c)) w.state (not (not (w.disk.out d))) DriveOut (Steps.write_at S.codec w.state d v c done (place_for places d v (readings S w))) (idle S L w I (writing o v c) e (refused DriveOut))
      (λ h. write_at_lem (writing o v c) e done d v c l (known_writing o v c e).used (place_for places d v (readings S w)) (λ x p. place_spare S w.disk w.past.last d v x l (drive_in d h) (writing_last o v c e) p))

  write_well : (d : ℕ) → Well S w w.state.known (Steps.write S.codec (setup S w.disk) w.state d (readings S w))
  write_well d = unless_elim (Well S w w.state.known) w.state (leb S.drives d) NoSuch (Steps.writing_to S.codec (setup S w.disk) w.state d (readings S w) w.state.known) (idle S L w I w.state.known refl (refused NoSuch)) (λ h. writing_well d (leb-false S.drives d h) w.state.known refl)

  -- read
  reading_well : (k : Knowledge) → w.state.known ≡ k → Well S w k (Steps.reading S.codec (setup S w.disk) w.state (readings S w) k)
  reading_well unsure e = idle S L w I unsure e (refused Unsure)
  reading_well (writing o v c) e = idle S L w I (writing o v c) e (refused BeingWritten)
  reading_well (counts v) e = go (eqb v 0)
    where
      as_read_lem : (o : Option (List ℕ)) → Well S w (counts v) (Steps.read_as w.state v o)
      as_read_lem None = idle S L w I (counts v) e (refused TooFewPieces)
      as_read_lem (Some c) = idle S L w I (counts v) e (has v c)

      go : (b : Bool) → Well S w (counts v) (cond b (Steps.tell w.state none) (Steps.read_as w.state v (worked_out S w v)))
      go true = idle S L w I (counts v) e none
      go false = as_read_lem (worked_out S w v)

  -- tidy and sweep
  taking_away : (k : Knowledge) → w.state.known ≡ k → (rule : Reading → Bool) → ((r : Reading) → rule r ≡ true → (w.past.last ≡ 0) ⊎ (r.version ≡ w.past.last → ⊥)) → Well S w k (Steps.take_away w.state rule (readings S w))
  taking_away k e rule h =
      acting S L w I k e (removed (length (filter rule (readings S w)))) (clears rule (readings S w))
      (clears_gentle S L w.past.content w.past.last w.state.number w.state.bar (filter rule (readings S w)) w.disk (clearable S w.disk w.past.last rule h w.disk.number w.disk.bar))

  tidying_well : (d : ℕ) (k : Knowledge) → w.state.known ≡ k → Well S w k (Steps.tidying (setup S w.disk) w.state d (readings S w) k)
  tidying_well d unsure e = idle S L w I unsure e (refused Unsure)
  tidying_well d (writing o v c) e = idle S L w I (writing o v c) e (refused BeingWritten)
  tidying_well d (counts v) e =
      unless_elim (Well S w (counts v)) w.state (not (not (w.disk.out d))) DriveOut (Steps.take_away w.state (λ r. eqb r.drive d && not (eqb r.version v)) (readings S w)) (idle S L w I (counts v) e (refused DriveOut))
      (λ h. taking_away (counts v) e (λ r. eqb r.drive d && not (eqb r.version v)) other)
    where
      other : (r : Reading) → (eqb r.drive d && not (eqb r.version v)) ≡ true → (w.past.last ≡ 0) ⊎ (r.version ≡ w.past.last → ⊥)
      other r h = inr (λ q. eqb-false r.version v (not-true (eqb r.version v) (and_parts (eqb r.drive d) (not (eqb r.version v)) h).1) (q ∙ sym (known_counts v e)))

  tidy_well : (d : ℕ) → Well S w w.state.known (Steps.tidy (setup S w.disk) w.state d (readings S w))
  tidy_well d = unless_elim (Well S w w.state.known) w.state (leb S.drives d) NoSuch (Steps.tidying (setup S w.disk) w.state d (readings S w) w.state.known) (idle S L w I w.state.known refl (refused NoSuch)) (λ h. tidying_well d w.state.known refl)

  sweep_well : (d : ℕ) → Well S w w.state.known (Steps.sweep (setup S w.disk) w.state d (readings S w))
  sweep_well d =
      unless_elim (Well S w w.state.known) w.state (leb S.drives d) NoSuch (unless w.state (not (not (w.disk.out d))) DriveOut swept) (idle S L w I w.state.known refl (refused NoSuch))
      (λ h. unless_elim (Well S w w.state.known) w.state (not (not (w.disk.out d))) DriveOut swept (idle S L w I w.state.known refl (refused DriveOut)) (λ g. taking_away w.state.known refl (λ r. eqb r.drive d && ltb r.version w.state.bar) other))
    where
      swept : Outcome
      swept = Steps.take_away w.state (λ r. eqb r.drive d && ltb r.version w.state.bar) (readings S w)

      other : (r : Reading) → (eqb r.drive d && ltb r.version w.state.bar) ≡ true → (w.past.last ≡ 0) ⊎ (r.version ≡ w.past.last → ⊥)
      other r h =
          let z = ltb-true r.version w.state.bar (and_parts (eqb r.drive d) (ltb r.version w.state.bar) h).1 in
          elim I.consistent.last [ inl f ↦ inl f | inr f ↦ inr (λ q. omega (arith, f.bar, z, q)) ]

  -- mend
  mending_well : (d : ℕ) → d < S.drives → (k : Knowledge) → w.state.known ≡ k → Well S w k (Steps.mending S.codec (setup S w.disk) w.state d (readings S w) k)
  mending_well d l unsure e = idle S L w I unsure e (refused Unsure)
  mending_well d l (writing o v c) e = idle S L w I (writing o v c) e (refused BeingWritten)
  mending_well d l (counts v) e = unless_elim (Well S w (counts v)) w.state (not (not (w.disk.out d))) DriveOut onward (idle S L w I (counts v) e (refused DriveOut)) (λ h. mend_in (drive_in d h) (eqb v 0))
    where
      again : Outcome
      again = Steps.remake S.codec w.state d v (place_for places d v (readings S w)) (worked_out S w v)

      onward : Outcome
      onward = cond (eqb v 0) (Steps.nothing_to_mend w.state (place_for places d v (readings S w))) (cond (holder d v (readings S w)) (Steps.tell w.state (mended 0)) again)

      nothing : (p : Option ℕ) → Well S w (counts v) (Steps.nothing_to_mend w.state p)
      nothing None = idle S L w I (counts v) e (refused NoPlace)
      nothing (Some k) = idle S L w I (counts v) e (refused CountsNone)

      remade : w.disk.out d ≡ false → (p : Option ℕ) → ((x : ℕ) → p ≡ Some x → Spare S w.disk w.past.last d x) → (o : Option (List ℕ)) → worked_out S w v ≡ o → Well S w (counts v) (Steps.remake S.codec w.state d v p o)
      remade i None h o q = idle S L w I (counts v) e (refused NoPlace)
      remade i (Some x) h None q = idle S L w I (counts v) e (refused TooFewPieces)
      remade i (Some x) h (Some c) q = write_at_lem (counts v) e (mended 1) d v c l (works_out S L w.past.content w.disk I.sound fits v c q).used (Some x) h

      free : w.disk.out d ≡ false → holder d v (readings S w) ≡ false → (x : ℕ) → place_for places d v (readings S w) ≡ Some x → Spare S w.disk w.past.last d x
      free i h x p = free_spare S w.disk w.past.last d x l i (free_place_lem places d 0 (readings S w) x (subst (λ b. cond b (own_place d v (readings S w)) (free_place places d 0 (readings S w)) ≡ Some x) h p)).0

      held : w.disk.out d ≡ false → (b : Bool) → holder d v (readings S w) ≡ b → Well S w (counts v) (cond b (Steps.tell w.state (mended 0)) again)
      held i true h = idle S L w I (counts v) e (mended 0)
      held i false h = remade i (place_for places d v (readings S w)) (free i h) (worked_out S w v) refl

      mend_in : w.disk.out d ≡ false → (b : Bool) → Well S w (counts v) (cond b (Steps.nothing_to_mend w.state (place_for places d v (readings S w))) (cond (holder d v (readings S w)) (Steps.tell w.state (mended 0)) again))
      mend_in i true = nothing (place_for places d v (readings S w))
      mend_in i false = held i (holder d v (readings S w)) refl

  mend_well : (d : ℕ) → Well S w w.state.known (Steps.mend S.codec (setup S w.disk) w.state d (readings S w))
  mend_well d = unless_elim (Well S w w.state.known) w.state (leb S.drives d) NoSuch (Steps.mending S.codec (setup S w.disk) w.state d (readings S w) w.state.known) (idle S L w I w.state.known refl (refused NoSuch)) (λ h. mending_well d (leb-false S.drives d h) w.state.known refl)

  -- give up
  giving_up_well : (k : Knowledge) → w.state.known ≡ k → Well S w k (Steps.giving_up w.state k)
  unfolding perform_all AllGentle
  giving_up_well unsure e = idle S L w I unsure e (refused NotBeingWritten)
  giving_up_well (counts v) e = idle S L w I (counts v) e (refused NotBeingWritten)
  giving_up_well (writing o v c) e =
      record {
        mild = inl tt;
        inv = record { sound = I.sound; consistent = unsure_consistent w.past w.state I.consistent; filed = record { number = I.filed.number; bar = I.filed.bar }; bearable = I.bearable };
        keeps = λ x l h. h;
        older = inl refl;
        fresh = record { kept = λ x y h. h; new = λ x y h. inl h; next = omega arith; number = omega arith };
      }

  -- finish
  finished : (o v : ℕ) (c : List ℕ) → w.state.known ≡ writing o v c → all_have S.drives (is_in w) v (readings S w) ≡ true → S.need ≤ how_many_in S.drives (is_in w) →
      Well S w (writing o v c) (record { reply = is_version v; acts = replace_file w.state.number v ∷ []; state = counting w.state v })
  unfolding perform_all
  finished o v c e all enough =
      record {
        mild = inr (record { number = w.state.number; bar = v; is = refl });
        inv =
            record {
              sound = record { reads = I.sound.reads; right = I.sound.right };
              consistent = record { used = used'; known = refl; last = inr (record { bar = refl; content = c; used = z.used }); bar = (I.consistent.used v c z.used).below; numbers = I.consistent.numbers };
              filed = record { number = omega arith; bar = refl };
              bearable = bearable';
            };
        keeps = λ x l h. has_it x l h.is_in;
        older = inr (record { content = c; finished = z.used; backed = (I.consistent.used v c z.used).backed (omega (arith, z.above)) });
        fresh = record { kept = λ x y h. h; new = λ x y h. inl h; next = omega arith; number = omega arith };
      }
    where
      z : Writing w.past w.state v c
      z = known_writing o v c e

      P' : Past
      P' = record { content = w.past.content; begun = []; last = v }

      D' : Disk
      D' = filing w.state.number v w.disk

      used' : (x : ℕ) (y : List ℕ) → w.past.content x ≡ Some y → Used P' (counting w.state v) x y
      used' x y h =
          let u = I.consistent.used x y h in
          let below = z.highest x y h in
          record {
            content = u.content;
            one = u.one;
            below = u.below;
            small = u.small;
            backed = λ (k : v ≤ x). inl (record { finished = (I.consistent.used v c z.used).one; content = subst (λ t. w.past.content t ≡ Some y) (let same : x ≡ v = omega arith in same) h });
          }

      has_it : (x : ℕ) → x < S.drives → w.disk.out x ≡ false → Strong S D' v x
      has_it x l i =
          let q = (holder_holding S w.disk x v (all_have_lem S.drives (is_in w) v (readings S w) all x l (not_from_false (w.disk.out x) i))).0 in
          record { is_in = i; has = inr (record { place = q.place; low = q.low; piece = q.piece; slot = q.slot }) }

      weak_out : (x : ℕ) → x < S.drives → weak S D' v x ≡ true → w.disk.out x ≡ true
      weak_out x l h = go (w.disk.out x) refl
        where
          go : (b : Bool) → w.disk.out x ≡ b → w.disk.out x ≡ true
          go true f = f
          go false f = absurd (true≢false (sym h ∙ not_weak S D' v x (has_it x l f)))

      bearable' : how_many S.drives (weak S D' v) + S.need ≤ S.drives
      bearable' =
          let a = how_many_mono S.drives (weak S D' v) w.disk.out weak_out in
          let b = how_many_not S.drives w.disk.out in
          let d = in_how_many S.drives (is_in w) in
          omega arith

  finishing_well : (k : Knowledge) → w.state.known ≡ k → Well S w k (Steps.finishing (setup S w.disk) w.state (readings S w) k)
  finishing_well unsure e = idle S L w I unsure e (refused NotBeingWritten)
  finishing_well (counts v) e = idle S L w I (counts v) e (refused NotBeingWritten)
  finishing_well (writing o v c) e =
      unless_elim (Well S w (writing o v c)) w.state (not (all_have S.drives (is_in w) v (readings S w))) NotEverywhere rest (idle S L w I (writing o v c) e (refused NotEverywhere))
      (λ h. unless_elim (Well S w (writing o v c)) w.state (ltb (how_many_in S.drives (is_in w)) S.need) TooFewIn now (idle S L w I (writing o v c) e (refused TooFewIn))
      (λ g. finished o v c e (not-false (all_have S.drives (is_in w) v (readings S w)) h) (ltb-false (how_many_in S.drives (is_in w)) S.need g)))
    where
      now : Outcome
      now = record { reply = is_version v; acts = replace_file w.state.number v ∷ []; state = counting w.state v }

      rest : Outcome
      rest = unless w.state (ltb (how_many_in S.drives (is_in w)) S.need) TooFewIn now

  -- settle
  none_left : best S w ≡ None → w.past.last ≡ 0
  none_left h = elim I.consistent.last [ inl e ↦ e | inr e ↦ absurd (go e) ]
    where
      go : LastIsBar w.past w.state → ⊥
      go e =
          let u = I.consistent.used w.past.last e.content e.used in
          let n = pieces_enough S w.disk w.past.last u.one I.bearable in
          let k = worked S L w.past.content w.disk I.sound w.past.last e.content e.used u.content n in
          let q = works_out S L w.past.content w.disk I.sound fits w.past.last e.content k in
          let v : q.reading.version ≡ w.past.last = q.version in
          let c =
          highest_covers S.codec (setup S w.disk) w.state.bar (readings S w) None (readings S w) q.among e.content (omega (arith, v, u.one)) (omega (arith, v, e.bar))
          (subst (λ x. worked_out S w x ≡ Some e.content) (sym v) k)
          in
          subst (AtLeast q.reading.version) h c

  settled_none : w.state.known ≡ unsure → w.past.last ≡ 0 →
      Well S w unsure (record { reply = none; acts = replace_file (raised w.state) w.state.next ∷ []; state = record { known = counts 0; bar = w.state.next; next = w.state.next + 1; number = raised w.state } })
  unfolding perform_all
  settled_none e zero' =
      record {
        mild = inr (record { number = raised w.state; bar = w.state.next; is = refl });
        inv =
            record {
              sound = record { reads = I.sound.reads; right = I.sound.right };
              consistent =
                  record {
                    used = λ x y h. let u = I.consistent.used x y h in record { content = u.content; one = u.one; below = omega (arith, u.below); small = u.small; backed = λ (k : w.state.next ≤ x). absurd (omega (arith, u.below)) };
                    known = sym zero';
                    last = inl zero';
                    bar = omega arith;
                    numbers = (raised_above w.state I.consistent.numbers).0;
                  };
              filed = record { number = omega arith; bar = refl };
              bearable = bearable_kept S w.disk w.past.last (filing (raised w.state) w.state.next w.disk) w.past.last kept I.bearable;
            };
        keeps = kept;
        older = inl refl;
        fresh = record { kept = λ x y h. h; new = λ x y h. inl h; next = omega arith; number = (raised_above w.state I.consistent.numbers).1 };
      }
    where
      kept : Keeps S w.disk w.past.last (filing (raised w.state) w.state.next w.disk) w.past.last
      kept x l h = refiled S w.disk w.past.last (raised w.state) w.state.next x h

  settled_on_lem : (f : ℕ × List ℕ) → w.state.known ≡ unsure → w.state.next < last_number → Good S.codec (setup S w.disk) w.state.bar (readings S w) f.0 f.1 → Well S w unsure (Steps.settling_on w.state (readings S w) (Some f))
  settled_on_lem f e small g =
      starting S L w I f.0 f.1 w.past.begun (reserve w.state ++ clears rule (readings S w)) (λ x m. m) (fits f.0 f.1 u) small (backed' ((I.consistent.used f.0 f.1 u).backed g.bar)) z.0 z.1
    where
      u : w.past.content f.0 ≡ Some f.1
      u = (works_out S L w.past.content w.disk I.sound fits f.0 f.1 g.content).used

      backed' : Backed w.past f.1 → Backed (record { content = using' w.state.next f.1 w.past.content; begun = w.past.begun; last = w.past.last }) f.1
      backed' (inr m) = inr m
      backed' (inl b) = inl (record { finished = b.finished; content = using_old w.state.next f.1 w.past.content w.past.last (λ q. omega (arith, last_below)) ∙ b.content })

      rule : Reading → Bool
      rule r = not (eqb r.version f.0 || eqb r.version w.state.bar)

      other : (r : Reading) → rule r ≡ true → (w.past.last ≡ 0) ⊎ (r.version ≡ w.past.last → ⊥)
      other r h =
          let q = or_parts (eqb r.version f.0) (eqb r.version w.state.bar) (not-true (eqb r.version f.0 || eqb r.version w.state.bar) h) in
          elim I.consistent.last [ inl l ↦ inl l | inr l ↦ inr (λ t. eqb-false r.version w.state.bar q.1 (t ∙ l.bar)) ]

      z : Gently S w (reserve w.state ++ clears rule (readings S w)) × Leads S w (raised w.state) (perform_all S (reserve w.state ++ clears rule (readings S w)) w.disk)
      z = reserved S L w I (clears rule (readings S w)) (λ low m b. clears_gentle S L w.past.content w.past.last low w.state.bar (filter rule (readings S w)) (filing m b w.disk) (clearable S w.disk w.past.last rule other m b))

  settling_well : (k : Knowledge) → w.state.known ≡ k → Well S w k (Steps.settling S.codec (setup S w.disk) w.state (readings S w) k)
  settling_well (counts v) e = idle S L w I (counts v) e (refused NotUnsure)
  settling_well (writing o v c) e = idle S L w I (writing o v c) e (refused NotUnsure)
  settling_well unsure e =
      unless_elim (Well S w unsure) w.state (leb last_number w.state.next) NoMoreVersions (Steps.settling_on w.state (readings S w) (best S w)) (idle S L w I unsure e (refused NoMoreVersions))
      (λ h. go (leb-false last_number w.state.next h) (best S w) refl (highest_good S.codec (setup S w.disk) w.state.bar (readings S w) None (readings S w) tt))
    where
      go : w.state.next < last_number → (f : Found) → best S w ≡ f → AllGood S.codec (setup S w.disk) w.state.bar (readings S w) f → Well S w unsure (Steps.settling_on w.state (readings S w) f)
      go small None h g = settled_none e (none_left h)
      go small (Some f) h g = settled_on_lem f e small g

  pub step_well : (c : Call) → Given c → Well S w w.state.known (outcome_of S w c)
  step_well (begin c) g = begin_well c g
  step_well (write d) g = write_well d
  step_well finish g = finishing_well w.state.known refl
  step_well read g = reading_well w.state.known refl
  step_well (tidy d) g = tidy_well d
  step_well (sweep d) g = sweep_well d
  step_well (mend d) g = mend_well d
  step_well give_up g = giving_up_well w.state.known refl
  step_well settle g = settling_well w.state.known refl
