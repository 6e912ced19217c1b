-- Settling's choice: it works out, isn't below the bar, and nothing above it does.
use Rattle.std.proofs.Common.{◌≡◌, ℕ, ◌≤◌, Bool, true, false, cond, ◌&&◌, ltb, leb, ◌⊎◌, List, [], ◌∷◌, Some, None, Option, sym, refl, ap, ◌∙◌, subst, inl, inr, arith}
use mathlib.Core.List.Memᴰ
use mathlib.Core.List.{Memᴰ}
use Rattle.std.proofs.lemmas.Bool.{true≢false, leb-true, le-leb, ltb-true, ltb-false, and_parts, and_from}
use Rattle.keeper.specs.Object.{Reading, Codec, Setup}
use Rattle.keeper.specs.Readings.{content_of}
use Rattle.keeper.specs.Steps.{Found, higher, taking, better, highest}

-- What was found works out, and isn't 0 or below the bar.
pub record Good (C : Codec) (u : Setup) (b : ℕ) (rs : List Reading) (v : ℕ) (c : List ℕ) : Type 0 where
  pub one : 1 ≤ v
  pub bar : b ≤ v
  pub content : content_of C u v rs ≡ Some c

abbrev pub AllGood : Codec → Setup → ℕ → List Reading → Found → Type 0
AllGood C u bar rs None = Unit {0}
AllGood C u bar rs (Some f) = Good C u bar rs f.0 f.1

-- What was found is a version, not below this one.
abbrev pub AtLeast : ℕ → Found → Type 0
AtLeast x None = ⊥
AtLeast x (Some f) = x ≤ f.0

module _ (C : Codec) (u : Setup) (bar : ℕ) (all : List Reading) where
  -- the two outcomes of looking at a version
  look : (Q : Found → Type 0) (best : Found) (v : ℕ) →
      ((leb 1 v && (leb bar v && higher v best)) ≡ false → Q best) → ((leb 1 v && (leb bar v && higher v best)) ≡ true → (o : Option (List ℕ)) → content_of C u v all ≡ o → Q (taking v best o)) → Q (better C u bar all best v)
  look Q best v no' yes' = go (leb 1 v && (leb bar v && higher v best)) refl
    where
      go : (b : Bool) → (leb 1 v && (leb bar v && higher v best)) ≡ b → Q (cond b (taking v best (content_of C u v all)) best)
      go true e = yes' e (content_of C u v all) refl
      go false e = no' e

  better_good : (best : Found) (v : ℕ) → AllGood C u bar all best → AllGood C u bar all (better C u bar all best v)
  better_good best v g = look (AllGood C u bar all) best v (λ _. g) took
    where
      took : (leb 1 v && (leb bar v && higher v best)) ≡ true → (o : Option (List ℕ)) → content_of C u v all ≡ o → AllGood C u bar all (taking v best o)
      took e None h = g
      took e (Some c) h =
          let q = and_parts (leb 1 v) (leb bar v && higher v best) e in
          let r = and_parts (leb bar v) (higher v best) q.1 in
          record { one = leb-true 1 v q.0; bar = leb-true bar v r.0; content = h }

  pub highest_good : (best : Found) (rs : List Reading) → AllGood C u bar all best → AllGood C u bar all (highest C u bar all best rs)
  unfolding highest
  highest_good best [] g = g
  highest_good best (r ∷ rs) g = highest_good (better C u bar all best r.version) rs (better_good best r.version g)

  better_keeps : (x : ℕ) (best : Found) (v : ℕ) → AtLeast x best → AtLeast x (better C u bar all best v)
  better_keeps x best v a = look (AtLeast x) best v (λ _. a) (took best a)
    where
      took : (b : Found) → AtLeast x b → (leb 1 v && (leb bar v && higher v b)) ≡ true → (o : Option (List ℕ)) → content_of C u v all ≡ o → AtLeast x (taking v b o)
      took b l e None h = l
      took None l e (Some c) h = absurd l
      took (Some f) l e (Some c) h =
          let q = and_parts (leb 1 v) (leb bar v && ltb f.0 v) e in
          let r = and_parts (leb bar v) (ltb f.0 v) q.1 in
          let z = ltb-true f.0 v r.1 in
          omega arith

  highest_keeps : (x : ℕ) (best : Found) (rs : List Reading) → AtLeast x best → AtLeast x (highest C u bar all best rs)
  unfolding highest
  highest_keeps x best [] a = a
  highest_keeps x best (r ∷ rs) a = highest_keeps x (better C u bar all best r.version) rs (better_keeps x best r.version a)

  better_covers : (best : Found) (v : ℕ) (c : List ℕ) → 1 ≤ v → bar ≤ v → content_of C u v all ≡ Some c → AtLeast v (better C u bar all best v)
  better_covers best v c one above h = look (AtLeast v) best v (λ e. stay best e) took
    where
      stay : (b : Found) → (leb 1 v && (leb bar v && higher v b)) ≡ false → AtLeast v b
      stay None e = absurd (true≢false (sym (and_from (leb 1 v) (leb bar v && true) (le-leb 1 v one) (and_from (leb bar v) true (le-leb bar v above) refl)) ∙ e))
      stay (Some f) e = go (ltb f.0 v) refl
        where
          go : (b : Bool) → ltb f.0 v ≡ b → v ≤ f.0
          go false z = ltb-false f.0 v z
          go true z = absurd (true≢false (sym (and_from (leb 1 v) (leb bar v && ltb f.0 v) (le-leb 1 v one) (and_from (leb bar v) (ltb f.0 v) (le-leb bar v above) z)) ∙ e))

      took : (leb 1 v && (leb bar v && higher v best)) ≡ true → (o : Option (List ℕ)) → content_of C u v all ≡ o → AtLeast v (taking v best o)
      took e None k = let z : ◌≡◌ {A = ℕ} 0 1 = cc in absurd (omega arith)
      took e (Some c') k = omega arith

  -- Every version that is read, isn't 0 or below the bar, and works out, isn't above what is found.
  pub highest_covers : (best : Found) (rs : List Reading) {r : Reading} → Memᴰ r rs → (c : List ℕ) → 1 ≤ r.version → bar ≤ r.version → content_of C u r.version all ≡ Some c → AtLeast r.version (highest C u bar all best rs)
  unfolding highest
  highest_covers best [] m c one above h = absurd (Memᴰ.not-nil m)
  highest_covers best (q ∷ rs) {r} m c one above h = go (Memᴰ.cases_cons m) (λ n. highest_covers (better C u bar all best q.version) rs n c one above h)
    where
      go : (r ≡ q) ⊎ Memᴰ r rs → (Memᴰ r rs → AtLeast r.version (highest C u bar all (better C u bar all best q.version) rs)) → AtLeast r.version (highest C u bar all (better C u bar all best q.version) rs)
      go (inl e) f =
          let same : r.version ≡ q.version = ap (λ (x : Reading). x.version) e in
          highest_keeps r.version (better C u bar all best q.version) rs (subst (λ v. AtLeast r.version (better C u bar all best v)) same (better_covers best r.version c one above h))
      go (inr n) f = f n
