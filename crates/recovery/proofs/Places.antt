-- Where a new piece goes: a place of a drive that is its own already, or one that is spare.
use Rattle.std.proofs.Common.{◌≡◌, ℕ, zero, suc, ◌+◌, ◌<◌, ◌≤◌, Bool, true, false, cond, not, ◌&&◌, ◌||◌, eqb, ◌⊎◌, List, [], ◌∷◌, Some, None, Option, sym, refl, ◌∙◌, subst, inl, inr, arith}
use mathlib.Core.List.{Memᴰ}
use Rattle.std.proofs.lemmas.Bool.{false≢true, true≢false, eqb-true, eq-eqb, and_parts, and_from, not-true, not_from_false, cases_eq}
use Rattle.keeper.specs.Object.{Reading}
use Rattle.keeper.specs.Readings.{any_of, is_of, holder, copied, counts_at, taken, free_place, own_place, place_for}
use Rattle.keeper.specs.Steps.{places}
use Rattle.recovery.specs.Disk.{holds, Site, Disk, slot_at, readings_of}
use Rattle.recovery.proofs.Lists.{any_mem, mem_any}
use Rattle.recovery.proofs.Readings.{mem_read, read_mem, as_read, of_true, Lower, copied_lower, lower_copied, Holding}
use Rattle.recovery.proofs.Acts.{Spare, Elsewhere, spare_from}
use Rattle.recovery.proofs.Work.{some_same, none_some}

own_place_lem : (d v : ℕ) (rs : List Reading) (k : ℕ) → own_place d v rs ≡ Some k → (r : Reading) × Memᴰ r rs × (is_of d v r ≡ true) × (r.place ≡ k)
unfolding own_place
own_place_lem d v [] k h = absurd (none_some h)
own_place_lem d v (r ∷ rs) k h = go (is_of d v r) refl h (own_place_lem d v rs k)
  where
    go : (b : Bool) → is_of d v r ≡ b → cond b (Some r.place) (own_place d v rs) ≡ Some k → (own_place d v rs ≡ Some k → (q : Reading) × Memᴰ q rs × (is_of d v q ≡ true) × (q.place ≡ k)) → (q : Reading) × Memᴰ q (r ∷ rs) × (is_of d v q ≡ true) × (q.place ≡ k)
    go true e z f = (r, Memᴰ.head refl, e, some_same z)
    go false e z f = let q = f z in (q.0, Memᴰ.tail q.1, q.2, q.3)

pub free_place_lem : (c d k : ℕ) (rs : List Reading) (x : ℕ) → free_place c d k rs ≡ Some x → (taken d x rs ≡ false) × (x < k + c)
unfolding free_place
free_place_lem zero d k rs x h = absurd (none_some h)
free_place_lem (suc n) d k rs x h = go (taken d k rs) refl h (free_place_lem n d (suc k) rs x)
  where
    go : (b : Bool) → taken d k rs ≡ b → cond b (free_place n d (suc k) rs) (Some k) ≡ Some x → (free_place n d (suc k) rs ≡ Some x → (taken d x rs ≡ false) × (x < suc k + n)) → (taken d x rs ≡ false) × (x < k + suc n)
    go true e z f = let q = f z in (q.0, omega (arith, q.1))
    go false e z f = let same : k ≡ x = some_same z in (subst (λ y. taken d y rs ≡ false) same e, omega arith)

-- A free place that has the version last finished has a copy: a lower place has it too.
pub free_spare : (S : Site) (D : Disk) (last d k : ℕ) → d < S.drives → D.out d ≡ false → taken d k (readings_of S D) ≡ false → Spare S D last d k
free_spare S D last d k l o h = inr elsewhere
  where
    rs : List Reading
    rs = readings_of S D

    copy : (p : List ℕ) → slot_at S D d k ≡ holds last p → k < 4 → Elsewhere S D d k last
    copy p e low = go (copied rs (as_read d k last p)) refl
      where
        m : Memᴰ (as_read d k last p) rs
        m = read_mem S D d k last p l low o e

        from : Lower rs (as_read d k last p) → Elsewhere S D d k last
        from q =
            let r = mem_read S D q.among in
            let a : q.other.drive ≡ d = q.drive in
            let b : q.other.version ≡ last = q.version in
            let c : q.other.place < k = q.lower in
            record {
              place = q.other.place;
              low = r.low;
              other = λ z. omega arith;
              piece = q.other.piece;
              slot = subst (λ y. slot_at S D d q.other.place ≡ holds y q.other.piece) b (subst (λ y. slot_at S D y q.other.place ≡ holds q.other.version q.other.piece) a r.slot);
            }

        go : (b : Bool) → copied rs (as_read d k last p) ≡ b → Elsewhere S D d k last
        go true z = from (copied_lower rs (as_read d k last p) z)
        go false z = absurd (true≢false (sym (any_mem (counts_at rs d k) m (and_from (eqb d d) (eqb k k && not (copied rs (as_read d k last p))) (eq-eqb d d refl) (and_from (eqb k k) (not (copied rs (as_read d k last p))) (eq-eqb k k refl) (not_from_false (copied rs (as_read d k last p)) z)))) ∙ h))

    elsewhere : Holding S D d last → Elsewhere S D d k last
    elsewhere q = elim (cases_eq q.place k) [ inl e ↦ copy q.piece (subst (λ y. slot_at S D d y ≡ holds last q.piece) e q.slot) (subst (λ y. y < 4) e q.low) | inr n ↦ record { place = q.place; low = q.low; other = n; piece = q.piece; slot = q.slot } ]

-- The place for a version other than the one last finished is spare.
pub place_spare : (S : Site) (D : Disk) (last d v k : ℕ) → d < S.drives → D.out d ≡ false → (v ≡ last → ⊥) → place_for places d v (readings_of S D) ≡ Some k → Spare S D last d k
place_spare S D last d v k l o other h = go (holder d v (readings_of S D)) h
  where
    go : (b : Bool) → cond b (own_place d v (readings_of S D)) (free_place places d 0 (readings_of S D)) ≡ Some k → Spare S D last d k
    go false e = free_spare S D last d k l o (free_place_lem places d 0 (readings_of S D) k e).0
    go true e =
        let q = own_place_lem d v (readings_of S D) k e in
        let a = of_true d v q.0 q.2 in
        let r = mem_read S D q.1 in
        let z : slot_at S D d k ≡ holds v q.0.piece = subst (λ y. slot_at S D d y ≡ holds v q.0.piece) q.3 (subst (λ y. slot_at S D d q.0.place ≡ holds y q.0.piece) a.1 (subst (λ y. slot_at S D y q.0.place ≡ holds q.0.version q.0.piece) a.0 r.slot)) in
        spare_from S D last d k (inr (λ p t. other (versions (sym z ∙ t))))
      where
        versions : {p q : List ℕ} → holds v p ≡ holds last q → v ≡ last
        versions t = cc

-- A drive that has a version has a place of its own for it.
own_found : (d v : ℕ) (rs : List Reading) → holder d v rs ≡ true → (k : ℕ) × (own_place d v rs ≡ Some k)
unfolding own_place any_of
own_found d v [] h = absurd (false≢true h)
own_found d v (r ∷ rs) h = go (is_of d v r) h (own_found d v rs)
  where
    go : (b : Bool) → (b || any_of (is_of d v) rs) ≡ true → (holder d v rs ≡ true → (k : ℕ) × (own_place d v rs ≡ Some k)) → (k : ℕ) × (cond b (Some r.place) (own_place d v rs) ≡ Some k)
    go true e f = (r.place, refl)
    go false e f = f e

-- Where no place is free, all are taken.
all_taken : (c d k : ℕ) (rs : List Reading) → free_place c d k rs ≡ None → (x : ℕ) → k ≤ x → x < k + c → taken d x rs ≡ true
unfolding free_place
all_taken zero d k rs h x a b = absurd (omega arith)
all_taken (suc n) d k rs h x a b = go (taken d k rs) refl h (all_taken n d (suc k) rs)
  where
    go : (t : Bool) → taken d k rs ≡ t → cond t (free_place n d (suc k) rs) (Some k) ≡ None → (free_place n d (suc k) rs ≡ None → (y : ℕ) → suc k ≤ y → y < suc k + n → taken d y rs ≡ true) → taken d x rs ≡ true
    go false e z f = absurd (none_some (sym z))
    go true e z f = elim (cases_eq x k) [ inl q ↦ subst (λ y. taken d y rs ≡ true) (sym q) e | inr q ↦ f z x (omega arith) (omega arith) ]

-- What stands in a taken place.
pub record Standing (rs : List Reading) (d k : ℕ) : Type 0 where
  pub reading : Reading
  pub among : Memᴰ reading rs
  pub drive : reading.drive ≡ d
  pub place : reading.place ≡ k
  pub own : copied rs reading ≡ false

standing : (rs : List Reading) (d k : ℕ) → taken d k rs ≡ true → Standing rs d k
standing rs d k h =
    let q = mem_any (counts_at rs d k) rs h in
    let a = and_parts (eqb q.0.drive d) (eqb q.0.place k && not (copied rs q.0)) q.2 in
    let b = and_parts (eqb q.0.place k) (not (copied rs q.0)) a.1 in
    record { reading = q.0; among = q.1; drive = eqb-true q.0.drive d a.0; place = eqb-true q.0.place k b.0; own = not-true (copied rs q.0) b.1 }

-- Two places of a drive that count don't have the same version.
apart : (rs : List Reading) (d j k : ℕ) → j < k → (r : Standing rs d j) (q : Standing rs d k) → r.reading.version ≡ q.reading.version → ⊥
apart rs d j k l r q e =
    true≢false
    (sym (lower_copied rs q.reading (record { other = r.reading; among = r.among; drive = r.drive ∙ sym q.drive; version = e; lower = omega (arith, r.place, q.place) })) ∙ q.own)

-- A drive with pieces of two versions at most has a place for another.
pub room : (rs : List Reading) (d v a b : ℕ) → ((r : Reading) → Memᴰ r rs → r.drive ≡ d → (r.version ≡ a) ⊎ ((r.version ≡ b) ⊎ (r.version ≡ v))) → (k : ℕ) × (place_for places d v rs ≡ Some k)
room rs d v a b h = go (holder d v rs) refl
  where
    two : holder d v rs ≡ false → {k : ℕ} (r : Standing rs d k) → (r.reading.version ≡ a) ⊎ (r.reading.version ≡ b)
    two n r =
        elim (h r.reading r.among r.drive) [
          | inl e ↦ inl e
          | inr e ↦
              elim e [
                | inl f ↦ inr f
                | inr f ↦ absurd (true≢false (sym (any_mem (is_of d v) r.among (and_from (eqb r.reading.drive d) (eqb r.reading.version v) (eq-eqb r.reading.drive d r.drive) (eq-eqb r.reading.version v f))) ∙ n))
              ]
        ]

    full : holder d v rs ≡ false → free_place places d 0 rs ≡ None → ⊥
    full n e = pigeon (two n r0) (two n r1) (two n r2)
      where
        r0 : Standing rs d 0
        r0 = standing rs d 0 (all_taken 4 d 0 rs e 0 (omega arith) (omega arith))

        r1 : Standing rs d 1
        r1 = standing rs d 1 (all_taken 4 d 0 rs e 1 (omega arith) (omega arith))

        r2 : Standing rs d 2
        r2 = standing rs d 2 (all_taken 4 d 0 rs e 2 (omega arith) (omega arith))

        one : r0.reading.version ≡ r1.reading.version → ⊥
        one = apart rs d 0 1 (omega arith) r0 r1

        far : r0.reading.version ≡ r2.reading.version → ⊥
        far = apart rs d 0 2 (omega arith) r0 r2

        next : r1.reading.version ≡ r2.reading.version → ⊥
        next = apart rs d 1 2 (omega arith) r1 r2

        pigeon : (r0.reading.version ≡ a) ⊎ (r0.reading.version ≡ b) → (r1.reading.version ≡ a) ⊎ (r1.reading.version ≡ b) → (r2.reading.version ≡ a) ⊎ (r2.reading.version ≡ b) → ⊥
        pigeon (inl x) (inl y) z = one (x ∙ sym y)
        pigeon (inr x) (inr y) z = one (x ∙ sym y)
        pigeon (inl x) (inr y) (inl z) = far (x ∙ sym z)
        pigeon (inl x) (inr y) (inr z) = next (y ∙ sym z)
        pigeon (inr x) (inl y) (inl z) = next (y ∙ sym z)
        pigeon (inr x) (inl y) (inr z) = far (x ∙ sym z)

    free : holder d v rs ≡ false → (o : Option ℕ) → free_place places d 0 rs ≡ o → (k : ℕ) × (free_place places d 0 rs ≡ Some k)
    free n None e = absurd (full n e)
    free n (Some k) e = (k, e)

    go : (t : Bool) → holder d v rs ≡ t → (k : ℕ) × (cond t (own_place d v rs) (free_place places d 0 rs) ≡ Some k)
    go true e = own_found d v rs e
    go false e = free e (free_place places d 0 rs) refl

-- A place for a version is one of the four.
pub place_low : (S : Site) (D : Disk) (d v k : ℕ) → place_for places d v (readings_of S D) ≡ Some k → k < 4
place_low S D d v k h = go (holder d v (readings_of S D)) h
  where
    go : (b : Bool) → cond b (own_place d v (readings_of S D)) (free_place places d 0 (readings_of S D)) ≡ Some k → k < 4
    go false e = let q = (free_place_lem places d 0 (readings_of S D) k e).1 in omega arith
    go true e = let q = own_place_lem d v (readings_of S D) k e in subst (λ y. y < 4) q.3 (mem_read S D q.1).low
