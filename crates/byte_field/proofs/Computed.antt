-- A test at every number below a bound, which antt computes: how the facts about single bytes are proved.
-- Assumes nothing.
use Rattle.std.proofs.Common.{◌≡◌, ℕ, zero, suc, ◌<◌, Bool, true, false, T, eqb, sym, subst, ⊎_elim, le_of_suc-le-suc, not-suc-le-zero, eq-or-lt_of_le, eqb→eq}

both : Bool → Bool → Bool
both true b = b
both false b = false

both_left : (a b : Bool) → T (both a b) → T a
unfolding both
both_left true b t = tt
both_left false b t = t

both_right : (a b : Bool) → T (both a b) → T b
unfolding both
both_right true b t = t
both_right false b t = absurd t

-- The test passes at each number below `n`.
unfoldable pub every : ℕ → (ℕ → Bool) → Bool
unfolding both
every zero p = true
every (suc n) p = both (p n) (every n p)

pub every_at : (n : ℕ) (p : ℕ → Bool) → T (every n p) → (k : ℕ) → k < n → T (p k)
unfolding every
every_at zero p t k h = absurd (not-suc-le-zero h)
every_at (suc n) p t k h =
    ⊎_elim (λ e. subst (λ (m : ℕ). T (p m)) (sym e) (both_left (p n) (every n p) t))
    (λ less. every_at n p (both_right (p n) (every n p) t) k less)
    (eq-or-lt_of_le (le_of_suc-le-suc h))

-- Two functions agree below `n`.
unfoldable pub agree : ℕ → (ℕ → ℕ) → (ℕ → ℕ) → Bool
agree n f g = every n (λ k. eqb (f k) (g k))

pub agree_at : (n : ℕ) (f g : ℕ → ℕ) → T (agree n f g) → (k : ℕ) → k < n → f k ≡ g k
unfolding agree
agree_at n f g t k h = eqb→eq (f k) (g k) (every_at n (λ k. eqb (f k) (g k)) t k h)

-- Two functions of two numbers agree at all pairs of numbers below `n`.
unfoldable pub agree₂ : ℕ → (ℕ → ℕ → ℕ) → (ℕ → ℕ → ℕ) → Bool
agree₂ n f g = every n (λ i. agree n (f i) (g i))

pub agree₂_at : (n : ℕ) (f g : ℕ → ℕ → ℕ) → T (agree₂ n f g) → (i j : ℕ) → i < n → j < n → f i j ≡ g i j
unfolding agree₂
agree₂_at n f g t i j hi hj = agree_at n (f i) (g i) (every_at n (λ i. agree n (f i) (g i)) t i hi) j hj
