-- A run of a store, seen from one object, is a run of that object.
use Rattle.std.proofs.Common.{◌≡◌, ℕ, zero, suc, ◌<◌, Bool, cond, List, [], ◌∷◌, Some, None, Option, sym, refl, ap, ◌∙◌, subst, inl, inr, arith}
use Rattle.std.proofs.lemmas.Bool.{eq-eqb, ne_eqb, cases_eq}
use Rattle.keeper.specs.Object.{Act, write_slot, clear_slot, replace_file}
use Rattle.recovery.specs.Disk.{Site, Disk, perform, perform_all, tear, cut, without}
use Rattle.recovery.specs.Laws.{Laws}
use Rattle.recovery.specs.World.{World, Call, outcome_of, Bearable}
use Rattle.recovery.specs.Events
use Rattle.recovery.specs.Events.{Given, stepped, on_disk, forgotten, stopped, moved, MayMove, Run, then}
use Rattle.recovery.specs.Store
use Rattle.recovery.specs.Store.{Depot, site_of, Store, seen_by, seen, part_of, putting, coming_up_all, without_drive, cutting, StoreSafety, Runs, MayCutAt}
use Rattle.recovery.proofs.Steps.{step_well}
use Rattle.recovery.proofs.Runs.{cut_mild, happens, run_inv}
use Rattle.recovery.proofs.Safe.{safe}
use Rattle.recovery.proofs.Progress.{goes_on_from}

-- Acts leave the drives in that are in.
out_performed : (S : Site) (a : Act) (D : Disk) → (perform S a D).out ≡ D.out
out_performed S (write_slot d k bs) D = refl
out_performed S (clear_slot d k) D = refl
out_performed S (replace_file n b) D = refl

out_torn : (S : Site) (m : List ℕ) (a : Act) (D : Disk) → (tear S m a D).out ≡ D.out
out_torn S m (write_slot d k bs) D = refl
out_torn S m (clear_slot d k) D = refl
out_torn S m (replace_file n b) D = refl

out_all : (S : Site) (as' : List Act) (D : Disk) → (perform_all S as' D).out ≡ D.out
unfolding perform_all
out_all S [] D = refl
out_all S (a ∷ more) D = out_all S more (perform S a D) ∙ out_performed S a D

out_cut : (S : Site) (as' : List Act) (n : ℕ) (left : Option (List ℕ)) (D : Disk) → (cut S as' n left D).out ≡ D.out
unfolding cut
out_cut S [] n left D = refl
out_cut S (a ∷ more) zero None D = refl
out_cut S (a ∷ more) zero (Some m) D = out_torn S m a D
out_cut S (a ∷ more) (suc n) left D = out_cut S more n left (perform S a D) ∙ out_performed S a D

-- The object itself, and another one, after an object was changed.
seen_same : (o : ℕ) (w : World) (s : Store) → seen o (putting o w s) ≡ w
seen_same o w s = ap (λ (b : Bool). seen_by (cond b (part_of w) (s.part o)) (putting o w s)) (eq-eqb o o refl)

seen_other : (o p : ℕ) (w : World) (s : Store) → (p ≡ o → ⊥) → w.disk.out ≡ s.out → seen p (putting o w s) ≡ moved w.state.next w.state.number w.disk.number (seen p s)
seen_other o p w s n e =
    ap (λ (b : Bool). seen_by (cond b (part_of w) (s.part p)) (putting o w s)) (ne_eqb p o n) ∙
    ap (λ (out : ℕ → Bool). seen_by (s.part p) (record { part = (putting o w s).part; out = out; next = w.state.next; number = w.state.number; filed = w.disk.number })) e

module _ (T : Depot) (L : (o : ℕ) → o < T.objects → Laws (site_of T o)) where
  abbrev All : Store → Type 0
  All s = (o : ℕ) → o < T.objects → Run (site_of T o) (seen o s)

  -- seen from the object itself and from others
  either : (Q : ℕ → Type 0) (o p : ℕ) → Q o → ((p ≡ o → ⊥) → Q p) → Q p
  either Q o p a b = elim (cases_eq p o) [ inl e ↦ subst Q (sym e) a | inr n ↦ b n ]

  stepping : (s : Store) → All s → (o : ℕ) (c : Call) → o < T.objects → Given c → All (Store.after T (Store.step o c) s)
  stepping s runs o c l g p m = either (λ x. x < T.objects → Run (site_of T x) (seen x (putting o w' s))) o p (λ _. own) others m
    where
      w' : World
      w' = stepped (site_of T o) c (seen o s)

      own : Run (site_of T o) (seen o (putting o (stepped (site_of T o) c (seen o s)) s))
      own = subst (Run (site_of T o)) (sym (seen_same o (stepped (site_of T o) c (seen o s)) s)) (then (runs o l) (Events.step c) g)

      may : MayMove w'.state.next w'.state.number w'.disk.number (seen p s).state
      may =
          let h = happens (site_of T o) (L o l) (seen o s) (run_inv (L o l) (runs o l)) (Events.step c) g in
          record { later = h.sequel.fresh.next; higher = h.sequel.fresh.number; below = h.inv.consistent.numbers; filed = h.inv.filed.number }

      others : (p ≡ o → ⊥) → p < T.objects → Run (site_of T p) (seen p (putting o (stepped (site_of T o) c (seen o s)) s))
      others n k =
          subst (Run (site_of T p)) (sym (seen_other o p (stepped (site_of T o) c (seen o s)) s n (out_all (site_of T o) (outcome_of (site_of T o) (seen o s) c).acts (seen o s).disk)))
          (then (runs p k) (Events.others w'.state.next w'.state.number w'.disk.number) may)

  -- an object's acts cut short: the others see the file's number change
  module _ (s : Store) (runs : All s) (o : ℕ) (c : Call) (n : ℕ) (left : Option (List ℕ)) (m : MayCutAt T o c n left s) where
    torn : World
    torn = on_disk (cut (site_of T o) (outcome_of (site_of T o) (seen o s) c).acts n left (seen o s).disk) (seen o s)

    same : seen o (cutting T o c n left s) ≡ on_disk (cut (site_of T o) (outcome_of (site_of T o) (seen o s) c).acts n left (seen o s).disk) (seen o s)
    same = seen_same o (on_disk (cut (site_of T o) (outcome_of (site_of T o) (seen o s) c).acts n left (seen o s).disk) (seen o s)) s

    other : (p : ℕ) → (p ≡ o → ⊥) → p < T.objects → Run (site_of T p) (seen p (cutting T o c n left s))
    other p d k =
        let I = run_inv (L o m.0) (runs o m.0) in
        let z = step_well (site_of T o) (L o m.0) (seen o s) I c m.1 in
        let g = cut_mild (site_of T o) (L o m.0) (seen o s) I (outcome_of (site_of T o) (seen o s) c).acts n left z.mild m.2 in
        let D' = cut (site_of T o) (outcome_of (site_of T o) (seen o s) c).acts n left (seen o s).disk in
        subst (Run (site_of T p)) (sym (seen_other o p (on_disk (cut (site_of T o) (outcome_of (site_of T o) (seen o s) c).acts n left (seen o s).disk) (seen o s)) s d (out_cut (site_of T o) (outcome_of (site_of T o) (seen o s) c).acts n left (seen o s).disk)))
        (then (runs p k) (Events.others s.next s.number D'.number) (record { later = omega arith; higher = omega arith; below = I.consistent.numbers; filed = g.filed.number }))

  goes : {s : Store} → All s → (e : Store.Event) → Store.May T e s → All (Store.after T e s)
  goes {s} runs (Store.step o c) m p k = stepping s runs o c m.0 m.1 p k
  goes {s} runs (Store.cut_short o c n left) m p k =
      either (λ x. x < T.objects → Run (site_of T x) (seen x (coming_up_all (cutting T o c n left s)))) o p
      (λ l. subst (λ (w : World). Run (site_of T o) (stopped w.disk w)) (sym (same s runs o c n left m)) (then (runs o l) (Events.cut_short c n left) (m.1, m.2)))
      (λ d l. then (other s runs o c n left m p d l) Events.stop tt) k
  goes {s} runs Store.stop m p k = then (runs p k) Events.stop tt
  goes {s} runs (Store.breaks_off o c n left) m p k =
      either (λ x. x < T.objects → Run (site_of T x) (seen x (cutting T o c n left s))) o p
      (λ l. subst (Run (site_of T o)) (sym (same s runs o c n left m)) (then (runs o l) (Events.breaks_off c n left) (m.1, m.2))) (λ d l. other s runs o c n left m p d l) k
  goes {s} runs (Store.forgets o) m p k =
      either (λ x. x < T.objects → Run (site_of T x) (seen x (putting o (forgotten (seen o s)) s))) o p
      (λ l. subst (Run (site_of T o)) (sym (seen_same o (forgotten (seen o s)) s)) (then (runs o l) Events.forgets tt))
      (λ d l. subst (Run (site_of T p)) (sym (seen_other o p (forgotten (seen o s)) s d refl)) (runs p l)) k
  goes {s} runs (Store.failing o c n left d) m p k =
      either (λ x. x < T.objects → Bearable (site_of T x) (seen x (without_drive d (cutting T o c n left s))) → Run (site_of T x) (seen x (without_drive d (cutting T o c n left s)))) o p
      (λ l b. subst (λ (w : World). Run (site_of T o) (on_disk (without d w.disk) w)) (sym (same s runs o c n left m.0))
      (then (runs o l) (Events.failing c n left d) (m.0.1, m.0.2, subst (λ (w : World). Bearable (site_of T o) (on_disk (without d w.disk) w)) (same s runs o c n left m.0) b)))
      (λ e l b. then (other s runs o c n left m.0 p e l) (Events.goes_out d) b) k (m.1 p k)
  goes {s} runs (Store.goes_out d) m p k = then (runs p k) (Events.goes_out d) (m p k)
  goes {s} runs (Store.returns d what) m p k = then (runs p k) (Events.returns d (what p)) (λ x. m.0 p x k, m.1 p k)

  all_runs : {s : Store} → Runs T s → All s
  all_runs (Store.first f) o l = Events.first (f o l)
  all_runs (Store.then r e m) o l = goes (all_runs r) e m o l

pub store_safety : StoreSafety
store_safety T L s r o l =
    let run = all_runs T L r o l in
    let I = run_inv (L o l) run in
    record { run = run; safe = safe (site_of T o) (L o l) (seen o s) I; onward = goes_on_from (site_of T o) (L o l) (seen o s) I }
