-- What working out gives: the content of a used version, of which enough pieces are in, and nothing else.
use Rattle.std.proofs.Common.{◌≡◌, ℕ, ◌+◌, ◌<◌, ◌≤◌, Bool, true, false, cond, not, eqb, leb, List, [], ◌∷◌, map, length, take, Some, None, Option, sym, refl, ap, ◌∙◌, subst, inl, inr, arith}
use mathlib.Core.List.{Memᴰ}
use Rattle.std.proofs.lemmas.Bool.{eq-eqb, leb-true, le-leb, not-true}
use Rattle.std.proofs.lemmas.List.{take-map, length-map, length-take-le}
use Rattle.keeper.specs.Object.{Reading, Codec}
use Rattle.keeper.specs.Readings.{any_of, pieces_of, given, content_of}
use Rattle.recovery.specs.Disk.{Site, Disk, readings_of, how_many}
use Rattle.recovery.specs.Laws.{Content, Laws, Distinct, pieces_on}
use Rattle.recovery.specs.World.{setup, weak}
use Rattle.recovery.proofs.Lists.{any_mem, mem_take, mem_map, distinct_take, how_many_mono, how_many_not, how_many_keys}
use Rattle.recovery.proofs.Readings.{mem_read, readings_ordered, mem_pieces, pieces_mem, pieces_apart, Original, original, holding_mem, as_read}
use Rattle.recovery.proofs.Invariant.{Right, Sound, right_slot}
use Rattle.recovery.proofs.Acts.{Strong, strong}

-- Readings whose pieces are all of one content.
pub given_pieces : (C : Codec) (c : List ℕ) (rs : List Reading) → ((r : Reading) → Memᴰ r rs → r.piece ≡ C.piece_of r.drive c) → map given rs ≡ pieces_on C c (map (λ r. r.drive) rs)
given_pieces C c [] h = refl
given_pieces C c (r ∷ rs) h =
    let e : r.piece ≡ C.piece_of r.drive c = h r (Memᴰ.head refl) in
    let below = given_pieces C c rs (λ q m. h q (Memᴰ.tail m)) in
    λ i. (r.drive, e i) ∷ below i

pub some_same : {X : Type 0} {x y : X} → Some x ≡ Some y → x ≡ y
some_same h = cc

pub none_some : {X : Type 0} {x : X} → None ≡ Some x → ⊥
none_some h = let z : ◌≡◌ {A = ℕ} 0 1 = cc in omega arith

module _ (S : Site) (L : Laws S) (content : ℕ → Option (List ℕ)) (D : Disk) (s : Sound S content D) where
  -- A reading is the right piece of its version's content.
  pub reading_right : {r : Reading} → Memᴰ r (readings_of S D) → Right S content r.drive r.version r.piece
  reading_right {r} m = right_slot s r.drive r.place r.version r.piece (mem_read S D m).slot

  pub piece_of_lem : (v : ℕ) (c : List ℕ) → content v ≡ Some c → {r : Reading} → Memᴰ r (readings_of S D) → r.version ≡ v → r.piece ≡ S.codec.piece_of r.drive c
  piece_of_lem v c u {r} m e =
      let q = reading_right m in
      let same : q.whole ≡ c = some_same (sym q.used ∙ (ap content e ∙ u)) in
      q.piece ∙ ap (S.codec.piece_of r.drive) same

  -- Any readings of one version on different drives, as many as are needed, work out to its content.
  pub any_work : (v : ℕ) (c : List ℕ) → content v ≡ Some c → Content c → (rs : List Reading) → ((r : Reading) → Memᴰ r rs → Memᴰ r (readings_of S D) × (r.version ≡ v)) →
      Distinct (map (λ r. r.drive) rs) → length rs ≡ S.need → S.codec.work_out (map given rs) ≡ Some c
  any_work v c u f rs h apart enough =
      subst (λ l. S.codec.work_out l ≡ Some c) (sym (given_pieces S.codec c rs (λ r m. piece_of_lem v c u (h r m).0 (h r m).1)))
      (L.works c (map (λ r. r.drive) rs) f apart below (length-map rs (λ r. r.drive) ∙ enough))
    where
      below : (d : ℕ) → Memᴰ d (map (λ (r : Reading). r.drive) rs) → d < S.drives
      below d m = let q = mem_map (λ (r : Reading). r.drive) rs m in subst (λ x. x < S.drives) (sym q.2) (mem_read S D (h q.0 q.1).0).inside

  pub worked : (v : ℕ) (c : List ℕ) → content v ≡ Some c → Content c → S.need ≤ length (pieces_of v (readings_of S D)) → content_of S.codec (setup S D) v (readings_of S D) ≡ Some c
  unfolding content_of
  worked v c u f enough =
      rw (le-leb S.need (length (pieces_of v (readings_of S D))) enough)
      (any_work v c u f (take S.need (pieces_of v (readings_of S D))) (λ r m. let q = mem_pieces v (readings_of S D) (mem_take S.need (pieces_of v (readings_of S D)) m) in (q.0, q.1))
      (subst Distinct (take-map (λ (r : Reading). r.drive) S.need (pieces_of v (readings_of S D))) (distinct_take S.need (map (λ r. r.drive) (pieces_of v (readings_of S D))) (pieces_apart v (readings_of S D) (readings_ordered S D))))
      (length-take-le S.need (pieces_of v (readings_of S D)) enough))

  -- What works out is of a used version, a piece of which is in.
  pub record Worked (v : ℕ) (c : List ℕ) : Type 0 where
    pub used : content v ≡ Some c
    pub reading : Reading
    pub among : Memᴰ reading (readings_of S D)
    pub version : reading.version ≡ v
    pub enough : S.need ≤ length (pieces_of v (readings_of S D))

  pub works_out : ((v : ℕ) (c : List ℕ) → content v ≡ Some c → Content c) → (v : ℕ) (c : List ℕ) → content_of S.codec (setup S D) v (readings_of S D) ≡ Some c → Worked v c
  unfolding content_of
  works_out fits v c h = go (leb S.need (length (pieces_of v (readings_of S D)))) refl h
    where
      from : (rs : List Reading) → S.need ≤ length rs → ((r : Reading) → Memᴰ r rs → Memᴰ r (pieces_of v (readings_of S D))) → (r : Reading) × Memᴰ r (pieces_of v (readings_of S D))
      from [] l k = absurd (omega (arith, L.some))
      from (r ∷ rs) l k = (r, k r (Memᴰ.head refl))

      go : (b : Bool) → leb S.need (length (pieces_of v (readings_of S D))) ≡ b → cond b (S.codec.work_out (map given (take S.need (pieces_of v (readings_of S D))))) None ≡ Some c → Worked v c
      go false e k = absurd (none_some k)
      go true e k =
          let l = leb-true S.need (length (pieces_of v (readings_of S D))) e in
          let r = from (pieces_of v (readings_of S D)) l (λ _ m. m) in
          let q = mem_pieces v (readings_of S D) r.1 in
          let z = reading_right q.0 in
          let u : content v ≡ Some z.whole = subst (λ x. content x ≡ Some z.whole) q.1 z.used in
          let same : z.whole ≡ c = some_same (sym (worked v z.whole u (fits v z.whole u) l) ∙ h) in
          record { used = u ∙ ap Some same; reading = r.0; among = q.0; version = q.1; enough = l }

-- As many pieces of the version last finished are in as there are drives that aren't weak.
pub pieces_enough : (S : Site) (D : Disk) (last : ℕ) → 1 ≤ last → how_many S.drives (weak S D last) + S.need ≤ S.drives → S.need ≤ length (pieces_of last (readings_of S D))
pieces_enough S D last one h =
    let both = how_many_not S.drives (weak S D last) in
    let some = how_many_mono S.drives (λ d. not (weak S D last d)) (λ d. any_of (λ r. eqb r.drive d) (pieces_of last (readings_of S D))) has_piece in
    let all = how_many_keys (λ (r : Reading). r.drive) S.drives (pieces_of last (readings_of S D)) in
    omega arith
  where
    has_piece : (d : ℕ) → d < S.drives → not (weak S D last d) ≡ true → any_of (λ (r : Reading). eqb r.drive d) (pieces_of last (readings_of S D)) ≡ true
    has_piece d l e = go (strong S D last d (not-true (weak S D last d) e))
      where
        go : Strong S D last d → any_of (λ (r : Reading). eqb r.drive d) (pieces_of last (readings_of S D)) ≡ true
        go t = elim t.has [ inl z ↦ absurd (omega arith) | inr z ↦ found (original (readings_of S D) 4 d last (as_read d z.place last z.piece) z.low (holding_mem S D d last l t.is_in z) refl refl) ]
          where
            found : Original (readings_of S D) d last → any_of (λ (r : Reading). eqb r.drive d) (pieces_of last (readings_of S D)) ≡ true
            found o = any_mem (λ (r : Reading). eqb r.drive d) (pieces_mem last (readings_of S D) o.among o.version o.own) (eq-eqb o.reading.drive d o.drive)
