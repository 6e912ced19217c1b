-- What it means that a step is well done, and the kinds of steps: one that only acts gently, and one that begins a new version.
use Rattle.std.proofs.Common.{◌≡◌, ℕ, ◌+◌, ◌<◌, ◌≤◌, Bool, true, false, cond, eqb, leb, ◌⊎◌, List, [], ◌∷◌, ◌++◌, Some, Option, sym, refl, ◌∙◌, subst, inl, inr, arith}
use mathlib.Core.List.{Memᴰ}
use Rattle.std.proofs.lemmas.Bool.{true≢false, eqb-true, eq-eqb, ne_eqb, leb-false}
use Rattle.keeper.specs.Object.{Knowledge, unsure, counts, writing, Act, replace_file, Reply, State, Outcome, refuse}
use Rattle.keeper.specs.Steps.{last_number, stride, raised, reserve, writing_on, forget, unless}
use Rattle.keeper.specs.declared.refusal.Refusal.{Refusal}
use Rattle.recovery.specs.Disk.{Site, Disk, how_many, filing, perform_all}
use Rattle.recovery.specs.Laws.{Content, Laws}
use Rattle.recovery.specs.World.{Past, World, Backed, using', noted, weak}
use Rattle.recovery.specs.Events.{carried_out}
use Rattle.recovery.specs.Promise.{NothingOlder, Fresh}
use Rattle.recovery.proofs.Lists.{how_many_mono}
use Rattle.recovery.proofs.Invariant.{Right, Used, Consistent, Inv}
use Rattle.recovery.proofs.Acts.{strong, not_weak, Keeps, refiled, AllGentle, Goes, all_go}

-- No more drives are weak where none has become so.
pub bearable_kept : (S : Site) (D : Disk) (last : ℕ) (D' : Disk) (last' : ℕ) → Keeps S D last D' last' → how_many S.drives (weak S D last) + S.need ≤ S.drives → how_many S.drives (weak S D' last') + S.need ≤ S.drives
bearable_kept S D last D' last' k h = let z = how_many_mono S.drives (weak S D' last') (weak S D last) was in omega arith
  where
    was : (d : ℕ) → d < S.drives → weak S D' last' d ≡ true → weak S D last d ≡ true
    was d l e = go (weak S D last d) refl
      where
        go : (b : Bool) → weak S D last d ≡ b → weak S D last d ≡ true
        go true f = f
        go false f = absurd (true≢false (sym e ∙ not_weak S D' last' d (k d l (strong S D last d f))))

-- Acts that are gentle in a world, and where such acts lead, the file's number not below this one.
abbrev pub Gently : Site → World → List Act → Type 0
Gently S w as' = AllGentle S w.past.content w.past.last w.state.number w.state.bar as' w.disk

abbrev pub Leads : Site → World → (low : ℕ) → Disk → Type 0
Leads S w low D' = Goes S w.past.content w.past.last low w.state.bar w.disk D'

-- Acts that can be cut anywhere: gentle ones, or the replacing of the file alone.
pub record OneFile (as' : List Act) : Type 0 where
  pub number : ℕ
  pub bar : ℕ
  pub is : as' ≡ replace_file number bar ∷ []

abbrev pub Mild : Site → World → List Act → Type 0
Mild S w as' = Gently S w as' ⊎ OneFile as'

pub record WellDone (S : Site) (w : World) (as' : List Act) (w' : World) : Type 0 where
  pub mild : Mild S w as'
  pub inv : Inv S w'
  pub keeps : Keeps S w.disk w.past.last w'.disk w'.past.last
  pub older : NothingOlder w.past w'.past
  pub fresh : Fresh w w'

abbrev pub Well : Site → World → Knowledge → Outcome → Type 0
Well S w k o = WellDone S w o.acts (carried_out S k o w)

noted_same : (k : Knowledge) (P : Past) → noted k k P ≡ P
noted_same unsure P = refl
noted_same (counts v) P = refl
noted_same (writing o w c) P = refl

pub unless_elim : (Q : Outcome → Type 0) (s : State) (b : Bool) (e : Refusal) (o : Outcome) → Q (refuse s e) → (b ≡ false → Q o) → Q (unless s b e o)
unless_elim Q s true e o r f = r
unless_elim Q s false e o r f = f refl

-- A version is used for a content.
pub using_new : (v : ℕ) (c : List ℕ) (f : ℕ → Option (List ℕ)) → using' v c f v ≡ Some c
using_new v c f = rw (eq-eqb v v refl) refl

pub using_old : (v : ℕ) (c : List ℕ) (f : ℕ → Option (List ℕ)) (x : ℕ) → (x ≡ v → ⊥) → using' v c f x ≡ f x
using_old v c f x h = rw (ne_eqb x v h) refl

pub using_cases : (v : ℕ) (c : List ℕ) (f : ℕ → Option (List ℕ)) (x : ℕ) (y : List ℕ) → using' v c f x ≡ Some y → ((x ≡ v) × (c ≡ y)) ⊎ (f x ≡ Some y)
using_cases v c f x y h = go (eqb x v) refl h
  where
    go : (b : Bool) → eqb x v ≡ b → cond b (Some c) (f x) ≡ Some y → ((x ≡ v) × (c ≡ y)) ⊎ (f x ≡ Some y)
    go true e k = inl (eqb-true x v e, cc)
    go false e k = inr k

pub raised_above : (s : State) → s.next ≤ s.number → (s.next + 1 ≤ raised s) × (s.number ≤ raised s)
raised_above s h = go (leb s.number s.next) refl
  where
    go : (b : Bool) → leb s.number s.next ≡ b → (s.next + 1 ≤ cond b (s.number + stride) s.number) × (s.number ≤ cond b (s.number + stride) s.number)
    go true e = (omega arith, omega arith)
    go false e = let z = leb-false s.number s.next e in (omega arith, omega arith)

-- What is no longer known for sure is as consistent.
pub unsure_consistent : (P : Past) (s : State) → Consistent P s → Consistent P (forget s)
unsure_consistent P s k =
    record {
      used = λ x y h. let u = k.used x y h in record { content = u.content; one = u.one; below = u.below; small = u.small; backed = u.backed };
      known = tt;
      last = elim k.last [ inl f ↦ inl f | inr f ↦ inr (record { bar = f.bar; content = f.content; used = f.used }) ];
      bar = k.bar;
      numbers = k.numbers;
    }

module _ (S : Site) (L : Laws S) (w : World) (I : Inv S w) where
  -- A step that only acts gently.
  pub acting : (k : Knowledge) → w.state.known ≡ k → (r : Reply) (as' : List Act) → Gently S w as' →
      Well S w k (record { reply = r; acts = as'; state = w.state })
  acting k e r as' g =
      subst (λ (P : Past). WellDone S w as' (record { disk = perform_all S as' w.disk; state = w.state; past = P }))
      (sym (subst (λ y. noted k y w.past ≡ w.past) (sym e) (noted_same k w.past)))
      (record {
        mild = inl g;
        inv = record { sound = z.sound; consistent = I.consistent; filed = z.filed; bearable = bearable_kept S w.disk w.past.last (perform_all S as' w.disk) w.past.last z.keeps I.bearable };
        keeps = z.keeps;
        older = inl refl;
        fresh = record { kept = λ v c h. h; new = λ v c h. inl h; next = omega arith; number = omega arith };
      })
    where
      z : Leads S w w.state.number (perform_all S as' w.disk)
      z = all_go S L w.past.content w.past.last w.state.number w.state.bar as' w.disk I.sound I.filed g

  pub idle : (k : Knowledge) → w.state.known ≡ k → (r : Reply) → Well S w k (record { reply = r; acts = []; state = w.state })
  unfolding AllGentle
  idle k e r = acting k e r [] tt

  -- The file's number is raised where that is due, and then other acts are done.
  pub reserved : (rest : List Act) → ((low m b : ℕ) → AllGentle S w.past.content w.past.last low w.state.bar rest (filing m b w.disk)) →
      Gently S w (reserve w.state ++ rest) ×
      Leads S w (raised w.state) (perform_all S (reserve w.state ++ rest) w.disk)
  unfolding AllGentle perform_all
  reserved rest g = go (leb w.state.number w.state.next)
    where
      D : Disk
      D = w.disk

      higher : ℕ
      higher = w.state.number + stride

      go : (b : Bool) →
          AllGentle S w.past.content w.past.last w.state.number w.state.bar (cond b (replace_file (w.state.number + stride) w.state.bar ∷ []) [] ++ rest) w.disk ×
          Goes S w.past.content w.past.last (cond b (w.state.number + stride) w.state.number) w.state.bar w.disk (perform_all S (cond b (replace_file (w.state.number + stride) w.state.bar ∷ []) [] ++ rest) w.disk)
      go false =
          let a = g w.state.number w.disk.number w.disk.bar in
          (a, all_go S L w.past.content w.past.last w.state.number w.state.bar rest w.disk I.sound I.filed a)
      go true =
          let h =
          all_go S L w.past.content w.past.last (w.state.number + stride) w.state.bar rest (filing (w.state.number + stride) w.state.bar w.disk) (record { reads = I.sound.reads; right = I.sound.right })
          (record { number = omega arith; bar = refl }) (g (w.state.number + stride) (w.state.number + stride) w.state.bar)
          in (
            (record { number = omega arith; bar = refl }, g w.state.number (w.state.number + stride) w.state.bar),
            record { sound = h.sound; filed = h.filed; keeps = λ x l k. h.keeps x l (refiled S w.disk w.past.last (w.state.number + stride) w.state.bar x k); out = h.out },
          )

  -- The next version is begun, for a content that is backed.
  pub starting : (v : ℕ) (c : List ℕ) (begun : List (List ℕ)) (as' : List Act) → ((x : List ℕ) → Memᴰ x w.past.begun → Memᴰ x begun) → Content c → w.state.next < last_number →
      Backed (record { content = using' w.state.next c w.past.content; begun = begun; last = w.past.last }) c →
      Gently S w as' →
      Leads S w (raised w.state) (perform_all S as' w.disk) →
      WellDone S w as' (record { disk = perform_all S as' w.disk; state = writing_on w.state v c; past = record { content = using' w.state.next c w.past.content; begun = begun; last = w.past.last } })
  starting v c begun as' more fits small backed g z =
      record {
        mild = inl g;
        inv =
            record {
              sound = record { reads = z.sound.reads; right = λ d k x p m. right_still d x p (z.sound.right d k x p m) };
              consistent =
                  record {
                    used = used';
                    known = record { used = using_new next c content; above = I.consistent.bar; highest = λ x y h. highest' x y (using_cases next c content x y h) };
                    last = elim I.consistent.last [ inl e ↦ inl e | inr e ↦ inr (record { bar = e.bar; content = e.content; used = still w.past.last e.content e.used }) ];
                    bar = omega (arith, I.consistent.bar);
                    numbers = (raised_above s I.consistent.numbers).0;
                  };
              filed = z.filed;
              bearable = bearable_kept S w.disk w.past.last (perform_all S as' w.disk) w.past.last z.keeps I.bearable;
            };
        keeps = z.keeps;
        older = inl refl;
        fresh = record { kept = still; new = λ x y h. elim (using_cases next c content x y h) [ inl q ↦ inr (q.0, omega (arith, q.0)) | inr q ↦ inl q ]; next = omega arith; number = (raised_above s I.consistent.numbers).1 };
      }
    where
      s : State
      s = w.state

      next : ℕ
      next = w.state.next

      content : ℕ → Option (List ℕ)
      content = w.past.content

      P' : Past
      P' = record { content = using' w.state.next c w.past.content; begun = begun; last = w.past.last }

      still : (x : ℕ) (y : List ℕ) → w.past.content x ≡ Some y → using' w.state.next c w.past.content x ≡ Some y
      still x y h = using_old w.state.next c w.past.content x (λ e. let q = (I.consistent.used x y h).below in omega arith) ∙ h

      right_still : (d x : ℕ) (p : List ℕ) → Right S w.past.content d x p → Right S (using' w.state.next c w.past.content) d x p
      right_still d x p r = record { whole = r.whole; used = still x r.whole r.used; piece = r.piece }

      backed_still : (y : List ℕ) → Backed w.past y → Backed P' y
      backed_still y (inl f) = inl (record { finished = f.finished; content = still w.past.last y f.content })
      backed_still y (inr m) = inr (more y m)

      first' : 1 ≤ w.state.next
      first' = omega (arith, I.consistent.bar)

      used' : (x : ℕ) (y : List ℕ) → using' w.state.next c w.past.content x ≡ Some y → Used P' (writing_on w.state v c) x y
      used' x y h = go (using_cases w.state.next c w.past.content x y h)
        where
          go : ((x ≡ w.state.next) × (c ≡ y)) ⊎ (w.past.content x ≡ Some y) → Used P' (writing_on w.state v c) x y
          go (inl q) =
              record {
                content = subst Content q.1 fits;
                one = omega (arith, q.0, first');
                below = omega (arith, q.0);
                small = subst (λ t. t < last_number) (sym q.0) small;
                backed = λ _. subst (Backed P') q.1 backed;
              }
          go (inr q) =
              let u = I.consistent.used x y q in
              record { content = u.content; one = u.one; below = omega (arith, u.below); small = u.small; backed = λ l. backed_still y (u.backed l) }

      highest' : (x : ℕ) (y : List ℕ) → ((x ≡ w.state.next) × (c ≡ y)) ⊎ (w.past.content x ≡ Some y) → x ≤ w.state.next
      highest' x y (inl q) = omega (arith, q.0)
      highest' x y (inr q) = omega (arith, (I.consistent.used x y q).below)
