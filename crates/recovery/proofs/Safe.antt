-- What the invariant says in the words of the promises.
use Rattle.std.proofs.Common.{◌≡◌, ℕ, ◌<◌, ◌≤◌, Bool, true, false, cond, not, ◌&&◌, eqb, ltb, leb, List, [], ◌∷◌, map, length, take, Some, None, Option, sym, refl, ◌∙◌, subst, inl, inr, arith}
use mathlib.Core.List.{Memᴰ}
use Rattle.std.proofs.lemmas.Bool.{ne_eqb, leb-true, not-true, not_from_false, and_from}
use Rattle.keeper.specs.Object.{Knowledge, unsure, counts, writing, Reading, Codec, Setup, Outcome, has as told, is_version as numbered, refused, none, replace_file}
use Rattle.keeper.specs.Readings.{pieces_of, given, content_of, all_have, how_many_in}
use Rattle.keeper.specs.Steps
use Rattle.keeper.specs.Steps.{highest}
use Rattle.keeper.specs.declared.refusal.Refusal.{Refusal}
use Rattle.keeper.specs.declared.refusal.Refusal.TheVariants.{TooLong, NoMoreVersions, NotEverywhere, TooFewIn}
use Rattle.recovery.specs.Disk.{Site, has, how_many}
use Rattle.recovery.specs.Laws.{Laws, Content}
use Rattle.recovery.specs.World.{World, LastFinished, setup, outcome_of, using', noted, weak}
use Rattle.recovery.specs.World
use Rattle.recovery.specs.Events.{stepped}
use Rattle.recovery.specs.Promise.{OneVersion, Safe, Safety, Onward, TakesHighest}
use Rattle.recovery.proofs.Lists.{how_many_mono, how_many_not, mem_take}
use Rattle.recovery.proofs.Readings.{mem_pieces, holding_has}
use Rattle.recovery.proofs.Invariant.{LastIsBar, Knowing, Inv, readings, is_in, worked_out}
use Rattle.recovery.proofs.Acts.{strong}
use Rattle.recovery.proofs.Work.{any_work, works_out, worked, pieces_enough, reading_right, none_some}
use Rattle.recovery.proofs.Highest.{AllGood, AtLeast, highest_good, highest_covers}
use Rattle.recovery.proofs.Well.{unless_elim, using_new}
use Rattle.recovery.proofs.Runs.{happens, run_inv}

nothing_in : {X : Type 0} (xs : List X) → ((x : X) → Memᴰ x xs → ⊥) → xs ≡ []
nothing_in [] h = refl
nothing_in (x ∷ xs) h = absurd (h x (Memᴰ.head refl))

module _ (S : Site) (L : Laws S) (w : World) (I : Inv S w) where
  pub fits : (v : ℕ) (c : List ℕ) → w.past.content v ≡ Some c → Content c
  fits v c h = (I.consistent.used v c h).content

  pub last_used_lem : 1 ≤ w.past.last → LastIsBar w.past w.state
  last_used_lem one = elim I.consistent.last [ inl e ↦ absurd (omega (arith, e)) | inr e ↦ e ]

  pub counted : (v : ℕ) → w.state.known ≡ counts v → v ≡ w.past.last
  counted v e = subst (Knowing w.past w.state) e I.consistent.known

  enough : 1 ≤ w.past.last → S.need ≤ how_many S.drives (λ d. not (w.disk.out d) && has S w.disk d w.past.last)
  enough one =
      let a = how_many_not S.drives (weak S w.disk w.past.last) in
      let b = how_many_mono S.drives (λ d. not (weak S w.disk w.past.last d)) (λ d. not (w.disk.out d) && has S w.disk d w.past.last) has_it in
      let c = I.bearable in
      omega arith
    where
      has_it : (d : ℕ) → d < S.drives → not (weak S w.disk w.past.last d) ≡ true → (not (w.disk.out d) && has S w.disk d w.past.last) ≡ true
      has_it d l e =
          let t = strong S w.disk w.past.last d (not-true (weak S w.disk w.past.last d) e) in
          and_from (not (w.disk.out d)) (has S w.disk d w.past.last) (not_from_false (w.disk.out d) t.is_in) (elim t.has [ inl z ↦ absurd (omega (arith, z)) | inr z ↦ holding_has S w.disk d w.past.last z ])

  -- the content of the version last finished works out
  pub last_works : (one : 1 ≤ w.past.last) → worked_out S w w.past.last ≡ Some (last_used_lem one).content
  last_works one =
      worked S L w.past.content w.disk I.sound w.past.last (last_used_lem one).content (last_used_lem one).used (fits w.past.last (last_used_lem one).content (last_used_lem one).used)
      (pieces_enough S w.disk w.past.last one I.bearable)

  answered : (v : ℕ) (c : List ℕ) → (outcome_of S w World.read).reply ≡ told v c → (v ≡ w.past.last) × LastFinished w.past c
  answered v c h = go w.state.known refl h
    where
      refusal : {e : Refusal} → refused e ≡ told v c → ⊥
      refusal t = let z : ◌≡◌ {A = ℕ} 0 1 = cc in omega arith

      nothing : none ≡ told v c → ⊥
      nothing t = let z : ◌≡◌ {A = ℕ} 0 1 = cc in omega arith

      found : (x : ℕ) → w.state.known ≡ counts x → (o : Option (List ℕ)) → worked_out S w x ≡ o → (Steps.read_as w.state x o).reply ≡ told v c → (v ≡ w.past.last) × LastFinished w.past c
      found x e None k t = absurd (refusal t)
      found x e (Some y) k t =
          let a : x ≡ v = cc in
          let b : y ≡ c = cc in
          let last' : x ≡ w.past.last = counted x e in
          let u = (works_out S L w.past.content w.disk I.sound fits x y k).used in
          let u' : w.past.content w.past.last ≡ Some c = subst (λ z. w.past.content w.past.last ≡ Some z) b (subst (λ z. w.past.content z ≡ Some y) last' u) in
          (sym a ∙ last', record { finished = (I.consistent.used w.past.last c u').one; content = u' })

      test : (x : ℕ) → w.state.known ≡ counts x → (b : Bool) → (cond b (Steps.tell w.state none) (Steps.read_as w.state x (worked_out S w x))).reply ≡ told v c → (v ≡ w.past.last) × LastFinished w.past c
      test x e true t = absurd (nothing t)
      test x e false t = found x e (worked_out S w x) refl t

      go : (k : Knowledge) → w.state.known ≡ k → (Steps.reading S.codec (setup S w.disk) w.state (readings S w) k).reply ≡ told v c → (v ≡ w.past.last) × LastFinished w.past c
      go unsure e t = absurd (refusal t)
      go (writing o n y) e t = absurd (refusal t)
      go (counts x) e t = test x e (eqb x 0) t

  answers : (v : ℕ) → w.state.known ≡ counts v → 1 ≤ v → (c : List ℕ) × ((outcome_of S w World.read).reply ≡ told v c)
  answers v e one =
      let same = counted v e in
      let one' : 1 ≤ w.past.last = omega arith in
      let c = (last_used_lem one').content in
      let k : worked_out S w v ≡ Some c = subst (λ x. worked_out S w x ≡ Some c) (sym same) (last_works one') in (
        c,
        subst (λ y. (Steps.reading S.codec (setup S w.disk) w.state (readings S w) y).reply ≡ told v c) (sym e)
            (subst (λ b. (cond b (Steps.tell w.state none) (Steps.read_as w.state v (worked_out S w v))).reply ≡ told v c) (sym (ne_eqb v 0 (λ z. omega arith)))
            (subst (λ o. (Steps.read_as w.state v o).reply ≡ told v c) (sym k) refl)),
      )

  -- what callers were told is what the history says
  refusal_number : {e : Refusal} {v : ℕ} → refused e ≡ numbered v → ⊥
  refusal_number t = let z : ◌≡◌ {A = ℕ} 0 1 = cc in omega arith

  begins : (v : ℕ) (c : List ℕ) → (outcome_of S w (World.begin c)).reply ≡ numbered v → (v ≡ w.state.next) × ((stepped S (World.begin c) w).past.content v ≡ Some c)
  begins v c = unless_elim (Q w.state.known) w.state (ltb Steps.longest (length c)) TooLong (Steps.beginning w.state c w.state.known) (λ t. absurd (refusal_number t)) (λ _. go w.state.known)
    where
      Q : Knowledge → Outcome → Type 0
      Q k x = x.reply ≡ numbered v → (v ≡ w.state.next) × ((noted k x.state.known w.past).content v ≡ Some c)

      go : (k : Knowledge) → Q k (Steps.beginning w.state c k)
      go unsure = λ t. absurd (refusal_number t)
      go (writing o n x) = λ t. absurd (refusal_number t)
      go (counts x) =
          unless_elim (Q (counts x)) w.state (leb Steps.last_number w.state.next) NoMoreVersions (record { reply = numbered w.state.next; acts = Steps.reserve w.state; state = Steps.writing_on w.state x c })
          (λ t. absurd (refusal_number t)) (λ _ t. let e : w.state.next ≡ v = cc in (sym e, subst (λ y. using' w.state.next c w.past.content y ≡ Some c) e (using_new w.state.next c w.past.content)))

  finishes : (v : ℕ) → (outcome_of S w World.finish).reply ≡ numbered v → (stepped S World.finish w).past.last ≡ v
  finishes v = go w.state.known
    where
      Q : Knowledge → Outcome → Type 0
      Q k x = x.reply ≡ numbered v → (noted k x.state.known w.past).last ≡ v

      go : (k : Knowledge) → Q k (Steps.finishing (setup S w.disk) w.state (readings S w) k)
      go unsure = λ t. absurd (refusal_number t)
      go (counts x) = λ t. absurd (refusal_number t)
      go (writing o n x) =
          unless_elim (Q (writing o n x)) w.state (not (all_have S.drives (is_in w) n (readings S w))) NotEverywhere
          (Steps.unless w.state (ltb (how_many_in S.drives (is_in w)) S.need) TooFewIn done') (λ t. absurd (refusal_number t))
          (λ _. unless_elim (Q (writing o n x)) w.state (ltb (how_many_in S.drives (is_in w)) S.need) TooFewIn done' (λ t. absurd (refusal_number t)) (λ _ t. cc))
        where
          done' : Outcome
          done' = record { reply = numbered n; acts = replace_file w.state.number n ∷ []; state = Steps.counting w.state n }

  pub safe : Safe S w
  safe =
      record {
        enough = enough;
        recovers = λ one. record { content = (last_used_lem one).content; finished = (last_used_lem one).used; any = any_work S L w.past.content w.disk I.sound w.past.last (last_used_lem one).content (last_used_lem one).used (fits w.past.last (last_used_lem one).content (last_used_lem one).used) };
        counted = counted;
        answered = answered;
        answers = answers;
        begins = begins;
        finishes = finishes;
        one_version = λ v r m. one_version_lem v r (mem_take S.need (pieces_of v (readings S w)) m);
        unused = λ v c h. let u = I.consistent.used v c h in record { next = u.below; file = omega (arith, u.below, I.consistent.numbers, I.filed.number) };
        begun = I.sound.reads;
        no_file = λ e. nothing_in (readings S w) (λ r m. let q = reading_right S L w.past.content w.disk I.sound m in let u = I.consistent.used r.version q.whole q.used in omega (arith, u.one, u.below, I.consistent.numbers, I.filed.number));
      }
    where
      one_version_lem : (v : ℕ) (r : Reading) → Memᴰ r (pieces_of v (readings S w)) → OneVersion S w v r
      one_version_lem v r m =
          let q = mem_pieces v (readings S w) m in
          let z = reading_right S L w.past.content w.disk I.sound q.0 in
          record { version = q.1; content = z.whole; used = subst (λ x. w.past.content x ≡ Some z.whole) q.1 z.used; piece = z.piece }

pub safety : Safety
safety S L w r = safe S L w (run_inv L r)

pub onward : Onward
onward S L w r e m = (happens S L w (run_inv L r) e m).sequel

-- Settling's choice.
mem_content : (C : Codec) (u : Setup) (x : ℕ) (rs : List Reading) (c : List ℕ) → 1 ≤ u.need → content_of C u x rs ≡ Some c → (r : Reading) × Memᴰ r rs × (r.version ≡ x)
unfolding content_of
mem_content C u x rs c one h = go (leb u.need (length (pieces_of x rs))) refl h
  where
    from : (qs : List Reading) → u.need ≤ length qs → ((r : Reading) → Memᴰ r qs → Memᴰ r (pieces_of x rs)) → (r : Reading) × Memᴰ r rs × (r.version ≡ x)
    from [] l k = absurd (omega arith)
    from (r ∷ qs) l k = let q = mem_pieces x rs (k r (Memᴰ.head refl)) in (r, q.0, q.1)

    go : (b : Bool) → leb u.need (length (pieces_of x rs)) ≡ b → cond b (C.work_out (map given (take u.need (pieces_of x rs)))) None ≡ Some c → (r : Reading) × Memᴰ r rs × (r.version ≡ x)
    go false e k = absurd (none_some k)
    go true e k = from (pieces_of x rs) (leb-true u.need (length (pieces_of x rs)) e) (λ _ m. m)

pub takes_highest : TakesHighest
takes_highest C u bar rs one = record { found = found'; above = above'; none = none' }
  where
    covers : (x : ℕ) (c : List ℕ) → 1 ≤ x → bar ≤ x → content_of C u x rs ≡ Some c → AtLeast x (highest C u bar rs None rs)
    covers x c l b h =
        let q = mem_content C u x rs c one h in
        let e : q.0.version ≡ x = q.2 in
        subst (λ y. AtLeast y (highest C u bar rs None rs)) e (highest_covers C u bar rs None rs q.1 c (omega arith) (omega arith) (subst (λ y. content_of C u y rs ≡ Some c) (sym e) h))

    found' : (v : ℕ) (c : List ℕ) → highest C u bar rs None rs ≡ Some (v, c) → (1 ≤ v) × (bar ≤ v) × (content_of C u v rs ≡ Some c)
    found' v c h = let g = subst (AllGood C u bar rs) h (highest_good C u bar rs None rs tt) in (g.one, g.bar, g.content)

    above' : (v : ℕ) (c : List ℕ) → highest C u bar rs None rs ≡ Some (v, c) → (x : ℕ) → v < x → bar ≤ x → content_of C u x rs ≡ None
    above' v c h x l b = go (content_of C u x rs) refl
      where
        go : (o : Option (List ℕ)) → content_of C u x rs ≡ o → content_of C u x rs ≡ None
        go None e = e
        go (Some y) e = let z : x ≤ v = subst (AtLeast x) h (covers x y (omega arith) b e) in absurd (omega arith)

    none' : highest C u bar rs None rs ≡ None → (x : ℕ) → 1 ≤ x → bar ≤ x → content_of C u x rs ≡ None
    none' h x l b = go (content_of C u x rs) refl
      where
        go : (o : Option (List ℕ)) → content_of C u x rs ≡ o → content_of C u x rs ≡ None
        go None e = e
        go (Some y) e = absurd (subst (AtLeast x) h (covers x y l b e))
