-- The steps of a loop that does what a list asks for, one by one.
use Rattle.std.proofs.Common.{◌≡◌, ℕ, ◌+◌, ◌<◌, ◌≤◌, List, ◌∷◌, map, length, get_or, drop, sym, refl, ap, ◌∙◌, subst}
use Rattle.std.proofs.lemmas.List.{drop_all, drop_more}
use Rattle.archive.specs.Deeds.{Deed, Leads}

module _ {S E : Type 0} (R : Deed → S → S → Type 0) (f : E → Deed) (es : List E) (i : ℕ) where
  -- What was asked for next was done: what is left then leads to where all that was left before leads to.
  pub leads_more : (e : E) (s u t : S) → i < length es → e ≡ get_or es i e → R (f e) s u → Leads R (map f (drop (i + 1) es)) u t → Leads R (map f (drop i es)) s t
  leads_more e s u t h is one rest =
      let seen : drop i es ≡ e ∷ drop (i + 1) es = drop_more es i e h ∙ ap (λ x. x ∷ drop (i + 1) es) (sym is) in
      let P : List E → Type 0 = λ xs. Leads R (map f xs) s t in
      subst P (sym seen) (u, (one, rest))

  -- Nothing is left.
  pub leads_end : (s : S) → length es ≤ i → Leads R (map f (drop i es)) s s
  leads_end s h =
      let P : List E → Type 0 = λ xs. Leads R (map f xs) s s in
      subst P (sym (drop_all i es h)) refl
