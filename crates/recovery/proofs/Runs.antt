-- Every event keeps the invariant, and so does every run.
use Rattle.std.proofs.Common.{◌≡◌, ℕ, zero, suc, ◌<◌, ◌≤◌, Bool, true, false, cond, eqb, List, [], ◌∷◌, Some, None, Option, sym, refl, ap, ◌∙◌, subst, inl, inr, arith}
use mathlib.Core.List.Memᴰ
use mathlib.Core.List.{Memᴰ}
use Rattle.std.proofs.lemmas.Bool.{eqb-true}
use Rattle.keeper.specs.Object.{Knowledge, unsure, counts, writing, State, Act, replace_file}
use Rattle.recovery.specs.Disk.{Site, Disk, has_from, without, bearing, cut, MayCut, OnceBegun}
use Rattle.recovery.specs.Laws.{Laws}
use Rattle.recovery.specs.World.{Past, World, outcome_of, weak, Bearable}
use Rattle.recovery.specs.Events.{Event, step, cut_short, stop, breaks_off, forgets, others, failing, goes_out, returns, coming_up, stopped, forgotten, after, May, First, Run, first, then}
use Rattle.recovery.specs.Promise.{Fresh, Sequel}
use Rattle.recovery.proofs.Invariant.{Sound, Used, Knowing, Consistent, Filed, Inv}
use Rattle.recovery.proofs.Acts.{strong, not_weak, Keeps, stays, cut_goes}
use Rattle.recovery.proofs.Work.{none_some}
use Rattle.recovery.proofs.Well.{bearable_kept, Mild, unsure_consistent, Leads}
use Rattle.recovery.proofs.Steps.{step_well}

pub record Happens (S : Site) (w : World) (e : Event) : Type 0 where
  pub inv : Inv S (after S e w)
  pub sequel : Sequel S w e

-- A state with other numbers, or after a stop, fits the history as well.
pub used_moved : {P : Past} {s t : State} {v : ℕ} {c : List ℕ} → s.bar ≡ t.bar → s.next ≤ t.next → Used P s v c → Used P t v c
used_moved {P} {s} {t} {v} {c} b n u = record { content = u.content; one = u.one; below = omega (arith, u.below); small = u.small; backed = λ l. u.backed (omega arith) }

none_used : (P : Past) (s : State) → Consistent P s → s.next ≤ 1 → (v : ℕ) (c : List ℕ) → P.content v ≡ Some c → ⊥
none_used P s k l v c h = let u = k.used v c h in omega (arith, u.one, u.below)

pub record Up (P : Past) (D : Disk) (t : State) : Type 0 where
  pub consistent : Consistent P t
  pub filed : Filed t.number t.bar D

pub coming_up_lem : (P : Past) (s : State) (D : Disk) → Consistent P s → Filed s.number s.bar D → Up P D (coming_up D)
coming_up_lem P s D k f =
    record {
      consistent =
          record {
            used = λ v c h. used_moved (sym f.bar) (omega (arith, k.numbers, f.number)) (k.used v c h);
            known = go (eqb D.number 1) refl;
            last = elim k.last [ inl z ↦ inl z | inr z ↦ inr (record { bar = z.bar ∙ sym f.bar; content = z.content; used = z.used }) ];
            bar = omega (arith, k.bar, k.numbers, f.number, f.bar);
            numbers = omega arith;
          };
      filed = record { number = omega arith; bar = refl };
    }
  where
    -- with no file no version is used
    go : (b : Bool) → eqb D.number 1 ≡ b → Knowing P (coming_up D) (cond b (counts 0) unsure)
    go false e = tt
    go true e =
        let one : D.number ≡ 1 = eqb-true D.number 1 e in
        let low : s.next ≤ 1 = omega (arith, k.numbers, f.number) in
        elim k.last [ inl z ↦ sym z | inr z ↦ absurd (none_used P s k low P.last z.content z.used) ]

module _ (S : Site) (L : Laws S) (w : World) (I : Inv S w) where
  -- a cut leads where gentle acts lead
  pub cut_mild : (as' : List Act) (n : ℕ) (left : Option (List ℕ)) → Mild S w as' → MayCut S as' n left w.disk → Leads S w w.state.number (cut S as' n left w.disk)
  unfolding cut MayCut
  cut_mild as' n left (inl g) h = cut_goes S L w.past.content w.past.last w.state.number w.state.bar as' n left w.disk I.sound I.filed g h
  cut_mild as' n left (inr o) h =
      subst (λ l. Leads S w w.state.number (cut S l n left w.disk)) (sym o.is) (go n left (subst (λ l. MayCut S l n left w.disk) o.is h))
    where
      same : Leads S w w.state.number w.disk
      same = stays S L w.past.content w.past.last w.state.number w.state.bar w.disk I.sound I.filed

      go : (m : ℕ) (l : Option (List ℕ)) → MayCut S (replace_file o.number o.bar ∷ []) m l w.disk → Leads S w w.state.number (cut S (replace_file o.number o.bar ∷ []) m l w.disk)
      go zero None k = same
      go zero (Some b) k = same
      go (suc m) l k = absurd k

  still_fresh : (w' : World) → w'.past ≡ w.past → w.state.next ≤ w'.state.next → w.state.number ≤ w'.state.number → Fresh w w'
  still_fresh w' e a b = record { kept = λ v c h. subst (λ (P : Past). P.content v ≡ Some c) (sym e) h; new = λ v c h. inl (subst (λ (P : Past). P.content v ≡ Some c) e h); next = a; number = b }

  unweakened : (D D' : Disk) (last last' : ℕ) → Keeps S D last D' last' → (d : ℕ) → d < S.drives → weak S D last d ≡ false → weak S D' last' d ≡ false
  unweakened D D' last last' k d l h = not_weak S D' last' d (k d l (strong S D last d h))

  stopping : (D' : Disk) → Leads S w w.state.number D' → Inv S (stopped D' w) × Fresh w (stopped D' w)
  stopping D' g =
      let u = coming_up_lem w.past w.state D' I.consistent g.filed in
      (record { sound = g.sound; consistent = u.consistent; filed = u.filed; bearable = bearable_kept S w.disk w.past.last D' w.past.last g.keeps I.bearable }, still_fresh (stopped D' w) refl (omega (arith, I.consistent.numbers, g.filed.number)) g.filed.number)

  same_state : (D' : Disk) → Sound S w.past.content D' → Filed w.state.number w.state.bar D' → Bearable S (record { disk = D'; state = w.state; past = w.past }) → Inv S (record { disk = D'; state = w.state; past = w.past })
  same_state D' s f b = record { sound = s; consistent = I.consistent; filed = f; bearable = b }

  pub happens : (e : Event) → May S e w → Happens S w e
  unfolding has_from
  happens (step c) m =
      let z = step_well S L w I c m in
      record { inv = z.inv; sequel = record { older = z.older; fresh = z.fresh; unweakened = λ _. unweakened w.disk (after S (step c) w).disk w.past.last (after S (step c) w).past.last z.keeps } }
  happens (cut_short c n left) m =
      let z = step_well S L w I c m.0 in
      let D' = cut S (outcome_of S w c).acts n left w.disk in
      let g = cut_mild (outcome_of S w c).acts n left z.mild m.1 in
      let t = stopping D' g in
      record { inv = t.0; sequel = record { older = inl refl; fresh = t.1; unweakened = λ _. unweakened w.disk D' w.past.last w.past.last g.keeps } }
  happens stop m =
      let g = stays S L w.past.content w.past.last w.state.number w.state.bar w.disk I.sound I.filed in
      let t = stopping w.disk g in
      record { inv = t.0; sequel = record { older = inl refl; fresh = t.1; unweakened = λ _ d l h. h } }
  happens (breaks_off c n left) m =
      let z = step_well S L w I c m.0 in
      let D' = cut S (outcome_of S w c).acts n left w.disk in
      let g = cut_mild (outcome_of S w c).acts n left z.mild m.1 in
      record {
        inv = same_state D' g.sound g.filed (bearable_kept S w.disk w.past.last D' w.past.last g.keeps I.bearable);
        sequel = record { older = inl refl; fresh = still_fresh (after S (breaks_off c n left) w) refl (omega arith) (omega arith); unweakened = λ _. unweakened w.disk D' w.past.last w.past.last g.keeps };
      }
  happens forgets m =
      record {
        inv = record { sound = I.sound; consistent = unsure_consistent w.past w.state I.consistent; filed = record { number = I.filed.number; bar = I.filed.bar }; bearable = I.bearable };
        sequel = record { older = inl refl; fresh = still_fresh (forgotten w) refl (omega arith) (omega arith); unweakened = λ _ d l h. h };
      }
  happens (others next number in_file) m =
      record {
        inv =
            record {
              sound = record { reads = I.sound.reads; right = I.sound.right };
              consistent =
                  record {
                    used = λ v c h. used_moved refl m.later (I.consistent.used v c h);
                    known = known' w.state.known I.consistent.known;
                    last = elim I.consistent.last [ inl z ↦ inl z | inr z ↦ inr (record { bar = z.bar; content = z.content; used = z.used }) ];
                    bar = omega (arith, I.consistent.bar, m.later);
                    numbers = m.below;
                  };
              filed = record { number = m.filed; bar = I.filed.bar };
              bearable = I.bearable;
            };
        sequel = record { older = inl refl; fresh = still_fresh (after S (others next number in_file) w) refl m.later m.higher; unweakened = λ _ d l h. h };
      }
    where
      t : State
      t = record { known = w.state.known; bar = w.state.bar; next = next; number = number }

      known' : (k : Knowledge) → Knowing w.past w.state k → Knowing w.past t k
      known' unsure h = tt
      known' (counts v) h = h
      known' (writing o v c) h = record { used = h.used; above = h.above; highest = h.highest }
  happens (failing c n left d) m =
      let z = step_well S L w I c m.0 in
      let g = cut_mild (outcome_of S w c).acts n left z.mild m.1 in
      record {
        inv = same_state (without d (cut S (outcome_of S w c).acts n left w.disk)) (record { reads = g.sound.reads; right = g.sound.right }) (record { number = g.filed.number; bar = g.filed.bar }) m.2;
        sequel = record { older = inl refl; fresh = still_fresh (after S (failing c n left d) w) refl (omega arith) (omega arith); unweakened = λ o. absurd o };
      }
  happens (goes_out d) m =
      record {
        inv = same_state (without d w.disk) (record { reads = I.sound.reads; right = I.sound.right }) (record { number = I.filed.number; bar = I.filed.bar }) m;
        sequel = record { older = inl refl; fresh = still_fresh (after S (goes_out d) w) refl (omega arith) (omega arith); unweakened = λ o. absurd o };
      }
  happens (returns d what) m =
      record {
        inv = same_state (bearing d what w.disk) (record { reads = reads'; right = I.sound.right }) (record { number = I.filed.number; bar = I.filed.bar }) m.1;
        sequel = record { older = inl refl; fresh = still_fresh (after S (returns d what) w) refl (omega arith) (omega arith); unweakened = λ o. absurd o };
      }
    where
      reads' : (a k : ℕ) → OnceBegun (w.disk.once a k) (S.format.decode a (cond (eqb a d) (what k) (w.disk.bytes a k)))
      reads' a k = go (eqb a d) refl
        where
          go : (b : Bool) → eqb a d ≡ b → OnceBegun (w.disk.once a k) (S.format.decode a (cond b (what k) (w.disk.bytes a k)))
          go false e = I.sound.reads a k
          go true e = subst (λ x. OnceBegun (w.disk.once x k) (S.format.decode x (what k))) (sym (eqb-true a d e)) (m.0 k)

-- The first start.
pub first_inv : (S : Site) (w : World) → First S w → Inv S w
first_inv S w f =
    record {
      sound = record { reads = λ d k. subst (λ s. OnceBegun (w.disk.once d k) s) (sym (f.nothing d k)) tt; right = λ d k v p m. absurd (Memᴰ.not-nil (subst (λ l. Memᴰ (v, p) l) (f.unwritten d k) m)) };
      consistent = subst (Consistent w.past) (sym f.state) (record { used = λ v c h. absurd (none_some (sym (f.unused v) ∙ h)); known = sym f.unfinished; last = inl f.unfinished; bar = omega arith; numbers = omega arith });
      filed = record { number = subst (λ (s : State). s.number ≤ w.disk.number) (sym f.state) (omega (arith, f.number)); bar = f.bar ∙ ap (λ (s : State). s.bar) (sym f.state) };
      bearable = f.bearable;
    }

pub run_inv : {S : Site} → Laws S → {w : World} → Run S w → Inv S w
run_inv {S} L (first {w} f) = first_inv S w f
run_inv {S} L (then {w} r e m) = (happens S L w (run_inv L r) e m).inv
