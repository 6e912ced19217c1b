-- What is left on the drives after readings were taken away.
use Rattle.std.proofs.Common.{◌≡◌, ℕ, ◌<◌, Bool, true, false, List, [], ◌∷◌, map, filter, sym, refl, ◌∙◌, subst, inl, inr, arith}
use mathlib.Core.List.Memᴰ
use mathlib.Core.List.{Memᴰ}
use Rattle.keeper.specs.Object.{Reading, clear_slot}
use Rattle.keeper.specs.Readings.{clears}
use Rattle.recovery.specs.Disk.{empty, holds, Site, Disk, slot_at, readings_of, filing, perform, perform_all}
use Rattle.recovery.specs.Laws.{Laws}
use Rattle.recovery.proofs.Lists.{mem_kept, kept_mem}
use Rattle.recovery.proofs.Readings.{mem_read, read_mem, as_read}
use Rattle.recovery.proofs.Acts.{at_elim}

record Left (S : Site) (D : Disk) (rs : List Reading) (d k v : ℕ) (p : List ℕ) : Type 0 where
  slot : slot_at S D d k ≡ holds v p
  untouched : (r : Reading) → Memᴰ r rs → r.drive ≡ d → r.place ≡ k → ⊥

pub empty_holds : {v : ℕ} {p : List ℕ} → empty ≡ holds v p → ⊥
empty_holds e = let z : ◌≡◌ {A = ℕ} 0 1 = cc in omega arith

left : (S : Site) → Laws S → (rs : List Reading) (D : Disk) → ((r : Reading) → Memᴰ r rs → r.drive < S.drives) → (d k v : ℕ) (p : List ℕ) →
    slot_at S (perform_all S (map (λ r. clear_slot r.drive r.place) rs) D) d k ≡ holds v p → Left S D rs d k v p
unfolding perform_all
left S L [] D h d k v p e = record { slot = e; untouched = λ r m. absurd (Memᴰ.not-nil m) }
left S L (r ∷ rs) D h d k v p e = go (left S L rs (perform S (clear_slot r.drive r.place) D) (λ q m. h q (Memᴰ.tail m)) d k v p e)
  where
    first : slot_at S (perform S (clear_slot r.drive r.place) D) d k ≡ holds v p → (slot_at S D d k ≡ holds v p) × (r.drive ≡ d → r.place ≡ k → ⊥)
    first =
        at_elim (λ (bs : List ℕ). S.format.decode d bs ≡ holds v p → (slot_at S D d k ≡ holds v p) × (r.drive ≡ d → r.place ≡ k → ⊥)) r.drive r.place (S.format.wipe r.drive (D.bytes r.drive r.place)) D.bytes d k
        (λ a b z. absurd (empty_holds (sym (L.wiped r.drive (D.bytes r.drive r.place) (h r (Memᴰ.head refl))) ∙ subst (λ x. S.format.decode x (S.format.wipe r.drive (D.bytes r.drive r.place)) ≡ holds v p) a z)))
        (λ n z. (z, λ a b. n (sym a) (sym b)))

    go : Left S (perform S (clear_slot r.drive r.place) D) rs d k v p → Left S D (r ∷ rs) d k v p
    go l =
        let f = first l.slot in
        record {
          slot = f.0;
          untouched = λ q m a b. elim (Memᴰ.cases_cons m) [ inl z ↦ f.1 (subst (λ (x : Reading). x.drive ≡ d) z a) (subst (λ (x : Reading). x.place ≡ k) z b) | inr z ↦ l.untouched q z a b ];
        }

clears_out : (S : Site) (as' : List Reading) (D : Disk) → (perform_all S (map (λ r. clear_slot r.drive r.place) as') D).out ≡ D.out
unfolding perform_all
clears_out S [] D = refl
clears_out S (r ∷ rs) D = clears_out S rs (perform S (clear_slot r.drive r.place) D)

-- After all readings that a rule names were taken away, what is left on the drives that are in was there before, and the rule doesn't name it.
pub record Spared (S : Site) (D : Disk) (rule : Reading → Bool) (d k v : ℕ) (p : List ℕ) : Type 0 where
  pub slot : slot_at S D d k ≡ holds v p
  pub unnamed : rule (as_read d k v p) ≡ false

pub spared : (S : Site) → Laws S → (D : Disk) (rule : Reading → Bool) (m b d k v : ℕ) (p : List ℕ) → d < S.drives → k < 4 → D.out d ≡ false →
    slot_at S (perform_all S (clears rule (readings_of S D)) (filing m b D)) d k ≡ holds v p → Spared S D rule d k v p
spared S L D rule m b d k v p l low i e = record { slot = z.slot; unnamed = go (rule (as_read d k v p)) refl }
  where
    z : Left S (filing m b D) (filter rule (readings_of S D)) d k v p
    z = left S L (filter rule (readings_of S D)) (filing m b D) (λ r n. (mem_read S D (mem_kept rule (readings_of S D) n).0).inside) d k v p e

    go : (t : Bool) → rule (as_read d k v p) ≡ t → rule (as_read d k v p) ≡ false
    go false f = f
    go true f = absurd (z.untouched (as_read d k v p) (kept_mem rule (read_mem S D d k v p l low i z.slot) f) refl refl)

pub clears_keep : (S : Site) (D : Disk) (rule : Reading → Bool) (m b : ℕ) → (perform_all S (clears rule (readings_of S D)) (filing m b D)).out ≡ D.out
clears_keep S D rule m b = clears_out S (filter rule (readings_of S D)) (filing m b D)
