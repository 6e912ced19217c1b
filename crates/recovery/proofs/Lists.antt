-- What is in a list that was filtered, mapped or tested; lists of different numbers; and how many numbers below a bound pass a test.
use Rattle.std.proofs.Common.{◌≡◌, ℕ, zero, suc, ◌+◌, ◌<◌, ◌≤◌, Bool, true, false, cond, not, ◌||◌, eqb, ◌⊎◌, List, [], ◌∷◌, map, length, take, filter, sym, refl, ap, ◌∙◌, subst, inl, inr, arith}
use mathlib.Core.List.Memᴰ
use mathlib.Core.List.{Memᴰ}
use Rattle.std.proofs.lemmas.Bool.{false≢true, true≢false, or_cases, or_left, or_right, eqb-true, eq-eqb, ne_eqb}
use Rattle.keeper.specs.Readings.{any_of}
use Rattle.recovery.specs.Laws.{Distinct}
use Rattle.recovery.specs.Disk.{how_many}

-- something passes
pub any_mem : {X : Type 0} (p : X → Bool) {x : X} {xs : List X} → Memᴰ x xs → p x ≡ true → any_of p xs ≡ true
unfolding any_of
any_mem p (Memᴰ.head {x = y} {xs = ys} e) h = or_left (p y) (any_of p ys) (subst (λ z. p z ≡ true) e h)
any_mem p (Memᴰ.tail {x = y} {xs = ys} m) h = or_right (p y) (any_of p ys) (any_mem p m h)

pub mem_any : {X : Type 0} (p : X → Bool) (xs : List X) → any_of p xs ≡ true → (x : X) × Memᴰ x xs × (p x ≡ true)
unfolding any_of
mem_any p [] h = absurd (false≢true h)
mem_any {X} p (y ∷ ys) h = go (or_cases (p y) (any_of p ys) h) (mem_any p ys)
  where
    go :
        (p y ≡ true) ⊎ (any_of p ys ≡ true) → (any_of p ys ≡ true → (x : X) × Memᴰ x ys × (p x ≡ true)) →
        (x : X) × Memᴰ x (y ∷ ys) × (p x ≡ true)
    go (inl e) k = (y, Memᴰ.head refl, e)
    go (inr e) k = ((k e).0, Memᴰ.tail (k e).1, (k e).2)

-- nothing passes
pub none_passes : {X : Type 0} (p : X → Bool) {x : X} {xs : List X} → any_of p xs ≡ false → Memᴰ x xs → p x ≡ false
none_passes p {x} {xs} h m = go (p x) refl
  where
    go : (b : Bool) → p x ≡ b → p x ≡ false
    go true e = absurd (true≢false (sym (any_mem p m e) ∙ h))
    go false e = e

pub any_none : {X : Type 0} (p : X → Bool) (xs : List X) → ((x : X) → Memᴰ x xs → p x ≡ true → ⊥) → any_of p xs ≡ false
any_none p xs h = go (any_of p xs) refl
  where
    go : (b : Bool) → any_of p xs ≡ b → any_of p xs ≡ false
    go true e = let r = mem_any p xs e in absurd (h r.0 r.1 r.2)
    go false e = e

-- what a filter keeps
pub mem_kept : {X : Type 0} (p : X → Bool) {x : X} (xs : List X) → Memᴰ x (filter p xs) → Memᴰ x xs × (p x ≡ true)
mem_kept p [] m = absurd (Memᴰ.not-nil m)
mem_kept {X} p {x} (y ∷ ys) m = go (p y) refl (mem_kept p ys) m
  where
    go :
        (b : Bool) → p y ≡ b → (Memᴰ x (filter p ys) → Memᴰ x ys × (p x ≡ true)) → Memᴰ x (cond b (y ∷ filter p ys) (filter p ys)) →
        Memᴰ x (y ∷ ys) × (p x ≡ true)
    go false e k m' = (Memᴰ.tail (k m').0, (k m').1)
    go true e k m' = at (Memᴰ.cases_cons m')
      where
        at : (x ≡ y) ⊎ Memᴰ x (filter p ys) → Memᴰ x (y ∷ ys) × (p x ≡ true)
        at (inl q) = (Memᴰ.head q, subst (λ z. p z ≡ true) (sym q) e)
        at (inr q) = (Memᴰ.tail (k q).0, (k q).1)

pub kept_mem : {X : Type 0} (p : X → Bool) {x : X} {xs : List X} → Memᴰ x xs → p x ≡ true → Memᴰ x (filter p xs)
kept_mem p {x} (Memᴰ.head {x = y} {xs = ys} e) h = subst (λ b. Memᴰ x (cond b (y ∷ filter p ys) (filter p ys))) (sym (subst (λ z. p z ≡ true) e h)) (Memᴰ.head e)
kept_mem p {x} (Memᴰ.tail {x = y} {xs = ys} m) h = go (p y) (kept_mem p m h)
  where
    go : (b : Bool) → Memᴰ x (filter p ys) → Memᴰ x (cond b (y ∷ filter p ys) (filter p ys))
    go true k = Memᴰ.tail k
    go false k = k

-- what is in a mapped list, and in the front of a list
pub map_mem : {X Y : Type 0} (f : X → Y) {x : X} {xs : List X} → Memᴰ x xs → Memᴰ (f x) (map f xs)
map_mem f (Memᴰ.head e) = Memᴰ.head (ap f e)
map_mem f (Memᴰ.tail m) = Memᴰ.tail (map_mem f m)

pub mem_map : {X Y : Type 0} (f : X → Y) {y : Y} (xs : List X) → Memᴰ y (map f xs) → (x : X) × Memᴰ x xs × (y ≡ f x)
mem_map f [] m = absurd (Memᴰ.not-nil m)
mem_map {X} f {y} (a ∷ xs) m = go (Memᴰ.cases_cons m) (mem_map f xs)
  where
    go : (y ≡ f a) ⊎ Memᴰ y (map f xs) → (Memᴰ y (map f xs) → (x : X) × Memᴰ x xs × (y ≡ f x)) → (x : X) × Memᴰ x (a ∷ xs) × (y ≡ f x)
    go (inl e) k = (a, Memᴰ.head refl, e)
    go (inr n) k = ((k n).0, Memᴰ.tail (k n).1, (k n).2)

pub mem_take : {X : Type 0} {x : X} (n : ℕ) (xs : List X) → Memᴰ x (take n xs) → Memᴰ x xs
mem_take zero xs m = absurd (Memᴰ.not-nil m)
mem_take (suc n) [] m = m
mem_take {X} {x} (suc n) (y ∷ ys) m = go (Memᴰ.cases_cons m) (mem_take n ys)
  where
    go : (x ≡ y) ⊎ Memᴰ x (take n ys) → (Memᴰ x (take n ys) → Memᴰ x ys) → Memᴰ x (y ∷ ys)
    go (inl e) k = Memᴰ.head e
    go (inr q) k = Memᴰ.tail (k q)

pub distinct_take : (n : ℕ) (xs : List ℕ) → Distinct xs → Distinct (take n xs)
unfolding Distinct
distinct_take zero xs h = tt
distinct_take (suc n) [] h = tt
distinct_take (suc n) (x ∷ xs) h = (λ m. h.0 (mem_take n xs m), distinct_take n xs h.1)

-- one more or none
one_below : (a b : Bool) → (a ≡ true → b ≡ true) → cond a 1 0 ≤ cond b 1 0
one_below true true h = omega arith
one_below true false h = absurd (false≢true (h refl))
one_below false b h = omega arith

one_or : (a b : Bool) → cond (a || b) 1 0 ≤ cond b 1 0 + cond a 1 0
one_or true b = omega arith
one_or false b = omega arith

one_not : (a : Bool) → cond a 1 0 + cond (not a) 1 0 ≡ 1
one_not true = refl
one_not false = refl

pub how_many_mono : (n : ℕ) (p q : ℕ → Bool) → ((d : ℕ) → d < n → p d ≡ true → q d ≡ true) → how_many n p ≤ how_many n q
unfolding how_many
how_many_mono zero p q h = omega arith
how_many_mono (suc n) p q h =
    let here = one_below (p n) (q n) (h n (omega arith)) in
    let below = how_many_mono n p q (λ d l. h d (omega arith)) in
    omega arith

pub how_many_not : (n : ℕ) (p : ℕ → Bool) → how_many n p + how_many n (λ d. not (p d)) ≡ n
unfolding how_many
how_many_not zero p = refl
how_many_not (suc n) p =
    let here = one_not (p n) in
    let below = how_many_not n p in
    omega arith

-- one number more makes at most one more
eqb_swap : (a b : ℕ) → eqb a b ≡ true → eqb b a ≡ true
eqb_swap a b h = eq-eqb b a (sym (eqb-true a b h))

how_many_one : (n a : ℕ) → n ≤ a → how_many n (eqb a) ≡ 0
unfolding how_many
how_many_one zero a h = refl
how_many_one (suc n) a h =
    let e : eqb a n ≡ false = ne_eqb a n (λ q. omega arith) in
    let below = how_many_one n a (omega arith) in
    rw e (omega arith)

how_many_single : (n a : ℕ) → how_many n (eqb a) ≤ 1
unfolding how_many
how_many_single zero a = omega arith
how_many_single (suc n) a = go (eqb a n) refl (how_many_single n a)
  where
    go : (b : Bool) → eqb a n ≡ b → how_many n (eqb a) ≤ 1 → cond b 1 0 + how_many n (eqb a) ≤ 1
    go true e k = let z = how_many_one n a (let q = eqb-true a n e in omega arith) in omega arith
    go false e k = omega arith

how_many_or : (n : ℕ) (p q : ℕ → Bool) → how_many n (λ d. p d || q d) ≤ how_many n p + how_many n q
unfolding how_many
how_many_or zero p q = omega arith
how_many_or (suc n) p q =
    let here = one_or (p n) (q n) in
    let below = how_many_or n p q in
    omega arith

how_many_none : (n : ℕ) → how_many n (λ d. false) ≡ 0
unfolding how_many
how_many_none zero = refl
how_many_none (suc n) = rw (how_many_none n) refl

-- there are at most as many numbers among a list's keys as the list is long
pub how_many_keys : {X : Type 0} (key : X → ℕ) (n : ℕ) (xs : List X) → how_many n (λ d. any_of (λ x. eqb (key x) d) xs) ≤ length xs
unfolding any_of
how_many_keys key n [] = let z = how_many_none n in omega arith
how_many_keys key n (x ∷ xs) =
    let here = how_many_single n (key x) in
    let below = how_many_keys key n xs in
    let both = how_many_or n (eqb (key x)) (λ d. any_of (λ y. eqb (key y) d) xs) in
    omega arith
