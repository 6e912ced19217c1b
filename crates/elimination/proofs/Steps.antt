-- What one turn of the elimination keeps, and what follows when a pivot is wanting or all columns are reduced.
use Rattle.std.proofs.Common.{◌≡◌, ℕ, zero, suc, ◌+◌, ◌*◌, ◌/◌, ◌%◌, ◌<◌, ◌≤◌, List, [], ◌∷◌, map, length, get_or, sym, ap, ◌∙◌, subst, inl, inr, add-zero, div-add-mod', arith}
use Rattle.std.specs.List.{range_with_len}
use Rattle.std.proofs.lemmas.List.FromFn.{length-map-range_with_len, get_or-map-range_with_len}
use Rattle.std.proofs.ByRecursion.{All-from_get_or}
use Rattle.std.proofs.lemmas.Nat.{div_below, mod_below}
use Rattle.std.proofs.lemmas.Bool.{cases_eq, cases_lt}
use Rattle.byte_field.specs.Byte.{add, mul, inv, IsByte}
use Rattle.byte_field.proofs.Laws as laws
use Rattle.elimination.specs.Polynomial.{Bytes}
use Rattle.elimination.specs.Matrix.{cell, column, combine, Vanishes, Independent, Reduced, Led, Cleared, leading}
use Rattle.elimination.proofs.Combine.{combine_byte, combine_add, combine_same, combine_zero, combine_unit, with_one, with_one_length, with_one_bytes, with_one_some, with_one_combine}

-- An element of a list of bytes is a byte, and so is what is read past its end.
pub byte_at : (xs : List ℕ) (i : ℕ) → Bytes xs → IsByte (get_or xs i 0)
byte_at [] i b = omega arith
byte_at (x ∷ xs) zero b = b.0
byte_at (x ∷ xs) (suc i) b = byte_at xs i b.1

pub counted_bytes : (f : ℕ → ℕ) (a n : ℕ) → ((i : ℕ) → IsByte (f i)) → Bytes (map f (range_with_len a n))
counted_bytes f a zero h = tt
counted_bytes f a (suc n) h = (h a, counted_bytes f (a + 1) n h)

-- A matrix whose cells are bytes is a list of bytes.
cells_bytes : (k w : ℕ) (m : List ℕ) → 0 < w → length m ≡ k * w → ((i t : ℕ) → i < k → t < w → IsByte (cell w m i t)) → Bytes m
cells_bytes k w m some long h =
    All-from_get_or IsByte m 0
    (λ n l.
    let P : ℕ → Type 0 = λ j. IsByte (get_or m j 0) in
    subst P (div-add-mod' n w) (h (n / w) (n % w) (div_below n w k some (omega arith)) (mod_below n w some)))

module _ (k w q : ℕ) (first m : List ℕ) (red : Reduced k w q first m) where
  column_bytes : (c : ℕ) → Bytes (column q w m c)
  column_bytes c = counted_bytes (λ i. cell w m i c) 0 q (λ i. byte_at m (i * w + c) red.bytes)

  -- A column that has only zeros below the reduced rows is a combination of the reduced ones.
  pub spanned :
      (r : ℕ) → q ≤ k → ((i : ℕ) → q ≤ i → i < k → cell w m i (q + r) ≡ 0) → Vanishes k w m (with_one (column q w m (q + r)) r)
  spanned r hq below = record { at = at }
    where
      at : (i : ℕ) → i < k → combine (with_one (column q w m (q + r)) r) (cell w m i) ≡ 0
      at i hi =
          let c : ℕ = q + r in
          let zs : List ℕ = column q w m c in
          let long : length zs ≡ q = length-map-range_with_len (λ i. cell w m i c) 0 q in
          let last : cell w m i (length zs + r) ≡ cell w m i c = ap (λ (n : ℕ). cell w m i (n + r)) long in
          let hc : IsByte (cell w m i (length zs + r)) = byte_at m (i * w + (length zs + r)) red.bytes in
          let split : combine (with_one zs r) (cell w m i) ≡ add (combine zs (cell w m i)) (cell w m i (length zs + r)) = with_one_combine zs r (cell w m i) hc in
          elim (cases_lt i q) [
            | inl l ↦
                let picks : combine zs (cell w m i) ≡ get_or zs i 0 =
                combine_unit zs (cell w m i) i (column_bytes c) (omega arith) (red.one i l) (λ t lt ne. red.none i t hi (omega arith) ne) in
                let reads : get_or zs i 0 ≡ cell w m i c = get_or-map-range_with_len (λ i. cell w m i c) 0 q i i 0 l (omega arith) in
                cc (split, picks, reads, last, laws.add_self (cell w m i c))
            | inr l ↦
                let zeros : combine zs (cell w m i) ≡ 0 = combine_zero zs (cell w m i) (λ t lt. red.none i t hi (omega arith) (λ e. omega arith)) in
                cc (split, zeros, below i l hi, last, laws.add_self 0)
          ]

  -- While columns are left a pivot is found.
  pub pivot_there : q < k → k ≤ w → Independent k w first → ((i : ℕ) → q ≤ i → i < k → cell w m i q ≡ 0) → ⊥
  pivot_there hq hk ind below =
      let below' : (i : ℕ) → q ≤ i → i < k → cell w m i (q + 0) ≡ 0 = λ i l h. rw add-zero (below i l h) in
      let zs : List ℕ = column q w m (q + 0) in
      let long : length zs ≡ q = length-map-range_with_len (λ i. cell w m i (q + 0)) 0 q in
      let long' : length (with_one zs 0) ≡ suc (length zs + 0) = with_one_length zs 0 in
      let zs-bytes : Bytes (with_one zs 0) = with_one_bytes zs 0 (column_bytes (q + 0)) in
      with_one_some zs 0
      (ind.only (with_one zs 0) zs-bytes (omega arith)
      (red.kept (with_one zs 0) zs-bytes (omega arith) (spanned 0 (omega arith) below')))

-- When all columns are reduced, a further column has the coefficients that combine the first columns to it.
pub solved :
    (k w : ℕ) (first m : List ℕ) → Reduced k w k first m → Bytes first → (r : ℕ) → k + r < w → (i : ℕ) → i < k →
    combine (column k w m (k + r)) (cell w first i) ≡ cell w first i (k + r)
solved k w first m red bf r hr i hi =
    let zs : List ℕ = column k w m (k + r) in
    let long : length zs ≡ k = length-map-range_with_len (λ i. cell w m i (k + r)) 0 k in
    let long' : length (with_one zs r) ≡ suc (length zs + r) = with_one_length zs r in
    let zs-bytes : Bytes (with_one zs r) = with_one_bytes zs r (column_bytes k w k first m red (k + r)) in
    let zero' : combine (with_one zs r) (cell w first i) ≡ 0 =
    (red.kept (with_one zs r) zs-bytes (omega arith) (spanned k w k first m red r (omega arith) (λ j l h. absurd (omega arith)))).at i hi in
    let split : combine (with_one zs r) (cell w first i) ≡ add (combine zs (cell w first i)) (cell w first i (length zs + r)) =
    with_one_combine zs r (cell w first i) (byte_at first (i * w + (length zs + r)) bf) in
    let last : cell w first i (length zs + r) ≡ cell w first i (k + r) = ap (λ (n : ℕ). cell w first i (n + r)) long in
    laws.add_is_zero (combine zs (cell w first i)) (cell w first i (k + r)) (combine_byte zs (cell w first i)) (byte_at first (i * w + (k + r)) bf)
    (cc (zero', split, last))

byte_of : {a b : ℕ} → a ≡ b → IsByte b → IsByte a
byte_of e h = omega arith

-- What a quotient is for.
quotient_is : (a p : ℕ) → IsByte a → IsByte p → 1 ≤ p → mul (mul a (inv p)) p ≡ a
quotient_is a p ha hp some =
    cc (laws.mul_assoc a (inv p) p ha (laws.inv_byte p) hp, laws.mul_comm (inv p) p (laws.inv_byte p) hp, laws.mul_inv p hp some, laws.mul_one a ha)

-- What is added to 1 more is 1.
add_next : (a : ℕ) → add a (add 1 a) ≡ 1
add_next a = cc (laws.add_comm a (add 1 a), laws.add_assoc 1 a a, laws.add_self a, laws.add_zero 1 (omega arith))

-- A number that vanishes when (1 + a) / a times it is added to it was 0.
own_row : (a s x : ℕ) → IsByte a → IsByte s → IsByte x → mul s a ≡ add 1 a → add x (mul s x) ≡ 0 → x ≡ 0
own_row a s x ha hs hx quotient zero' =
    let product : mul (add 1 s) x ≡ 0 = cc (laws.add_mul 1 s x (omega arith) hs, laws.one_mul x hx, zero') in
    elim (laws.mul_is_zero (add 1 s) x (laws.add_byte 1 s) hx product) [
      | inl e ↦
          let s-one : 1 ≡ s = laws.add_is_zero 1 s (omega arith) hs e in
          let same : a ≡ add 1 a = cc (s-one, quotient, laws.one_mul a ha) in
          let nought : ◌≡◌ {A = ℕ} 0 1 = cc (add_next a, laws.add_self a, same) in
          absurd (omega arith)
      | inr e ↦ e
    ]

-- A row that vanishes once a vanishing row was added vanished before.
vanished : (x y s z : ℕ) → IsByte x → z ≡ add x (mul s y) → z ≡ 0 → y ≡ 0 → x ≡ 0
vanished x y s z hx e ez ey = cc (e, ez, ey, laws.mul_zero s, laws.add_zero x hx)

module _ (k w q p : ℕ) (first m m' : List ℕ) (red : Reduced k w q first m) (led : Led w q p m m') (hk : k ≤ w) (hq : q ≤ p) (hp : p < k) (some : 1 ≤ cell w m p q) where
  abbrev s : ℕ
  s = leading w q p m

  byte : (i t : ℕ) → IsByte (cell w m i t)
  byte i t = byte_at m (i * w + t) red.bytes

  s_byte : IsByte s
  s_byte = laws.mul_byte (add 1 (cell w m q q)) (inv (cell w m p q))

  s_is : mul s (cell w m p q) ≡ add 1 (cell w m q q)
  s_is = quotient_is (add 1 (cell w m q q)) (cell w m p q) (laws.add_byte 1 (cell w m q q)) (byte p q) some

  -- The entry on the diagonal is 1 now.
  pub led_one : cell w m' q q ≡ 1
  led_one = cc (led.there q (omega arith), s_is, add_next (cell w m q q))

  row_q : (zs : List ℕ) → Bytes zs → length zs ≤ w → combine zs (cell w m' q) ≡ add (combine zs (cell w m q)) (mul s (combine zs (cell w m p)))
  row_q zs b l = combine_add zs (cell w m q) (cell w m p) (cell w m' q) s b s_byte (byte p) (λ t lt. led.there t (omega arith))

  row_other : (zs : List ℕ) → length zs ≤ w → (i : ℕ) → (i ≡ q → ⊥) → combine zs (cell w m' i) ≡ combine zs (cell w m i)
  row_other zs l i ne = combine_same zs (cell w m' i) (cell w m i) (λ t lt. led.elsewhere i t (omega arith) ne)

  back_q : (zs : List ℕ) → Bytes zs → length zs ≤ w → Vanishes k w m' zs → combine zs (cell w m q) ≡ 0
  back_q zs b l v =
      let X : ℕ = combine zs (cell w m q) in
      let h_x : IsByte X = combine_byte zs (cell w m q) in
      let zero' : combine zs (cell w m' q) ≡ 0 = v.at q (omega arith) in
      elim (cases_eq p q) [
        | inl e ↦
            let quotient : mul s (cell w m q q) ≡ add 1 (cell w m q q) = ap (λ (j : ℕ). mul s (cell w m j q)) (sym e) ∙ s_is in
            let sum : combine zs (cell w m' q) ≡ add X (mul s X) = row_q zs b l ∙ ap (λ (j : ℕ). add X (mul s (combine zs (cell w m j)))) e in
            own_row (cell w m q q) s X (byte q q) s_byte h_x quotient (cc (sum, zero'))
        | inr ne ↦
            let other : combine zs (cell w m p) ≡ 0 = sym (row_other zs l p ne) ∙ v.at p hp in
            vanished X (combine zs (cell w m p)) s (combine zs (cell w m' q)) h_x (row_q zs b l) zero' other
      ]

  -- The columns that were reduced still are.
  pub led_reduced : Reduced k w q first m'
  led_reduced =
      record {
        long = led.long ∙ red.long;
        bytes = cells_bytes k w m' (omega arith) (led.long ∙ red.long) (λ i t hi ht. bytes i t ht);
        one = λ i h. led.elsewhere i i (omega arith) (λ e. omega arith) ∙ red.one i h;
        none = none;
        kept = λ zs b l v. red.kept zs b l (record { at = at zs b l v });
      }
    where
      bytes : (i t : ℕ) → t < w → IsByte (cell w m' i t)
      bytes i t ht =
          elim (cases_eq i q) [
            | inl e ↦ byte_of (ap (λ (j : ℕ). cell w m' j t) e ∙ led.there t ht) (laws.add_byte (cell w m q t) (mul s (cell w m p t)))
            | inr ne ↦ byte_of (led.elsewhere i t ht ne) (byte i t)
          ]

      none : (i t : ℕ) → i < k → t < q → (i ≡ t → ⊥) → cell w m' i t ≡ 0
      none i t hi ht ne =
          elim (cases_eq i q) [
            | inl e ↦
                let zero-q : cell w m q t ≡ 0 = red.none q t (omega arith) ht (λ e'. omega arith) in
                let zero-p : cell w m p t ≡ 0 = red.none p t hp ht (λ e'. omega arith) in
                let here : cell w m' q t ≡ 0 = cc (led.there t (omega arith), zero-q, zero-p, laws.mul_zero s, laws.add_self 0) in
                ap (λ (j : ℕ). cell w m' j t) e ∙ here
            | inr ne' ↦ led.elsewhere i t (omega arith) ne' ∙ red.none i t hi ht ne
          ]

      at : (zs : List ℕ) → Bytes zs → length zs ≤ w → Vanishes k w m' zs → (i : ℕ) → i < k → combine zs (cell w m i) ≡ 0
      at zs b l v i hi =
          elim (cases_eq i q) [
            | inl e ↦ ap (λ (j : ℕ). combine zs (cell w m j)) e ∙ back_q zs b l v
            | inr ne ↦ sym (row_other zs l i ne) ∙ v.at i hi
          ]

-- With the diagonal 1, the other rows cleared in column q: one column more is reduced.
pub cleared_reduced :
    (k w q : ℕ) (first m m' : List ℕ) → Reduced k w q first m → Cleared k w q m m' → cell w m q q ≡ 1 → q < k → k ≤ w →
    Reduced k w (q + 1) first m'
cleared_reduced k w q first m m' red clear one-q hq hk =
    record {
      long = clear.long ∙ red.long;
      bytes = cells_bytes k w m' (omega arith) (clear.long ∙ red.long) bytes;
      one = one;
      none = none;
      kept = λ zs bz l v. red.kept zs bz l (record { at = at zs bz l v });
    }
  where
    byte : (i t : ℕ) → IsByte (cell w m i t)
    byte i t = byte_at m (i * w + t) red.bytes

    bytes : (i t : ℕ) → i < k → t < w → IsByte (cell w m' i t)
    bytes i t hi ht =
        elim (cases_eq i q) [
          | inl e ↦ byte_of (ap (λ (j : ℕ). cell w m' j t) e ∙ clear.same t ht) (byte q t)
          | inr ne ↦ byte_of (clear.there i t hi ht ne) (laws.add_byte (cell w m i t) (mul (cell w m i q) (cell w m q t)))
        ]

    one : (i : ℕ) → i < q + 1 → cell w m' i i ≡ 1
    one i h =
        elim (cases_eq i q) [
          | inl e ↦ ap (λ (j : ℕ). cell w m' j j) e ∙ clear.same q (omega arith) ∙ one-q
          | inr ne ↦
              let up : cell w m q i ≡ 0 = red.none q i hq (omega arith) (λ e. omega arith) in
              let was : cell w m i i ≡ 1 = red.one i (omega arith) in
              cc (clear.there i i (omega arith) (omega arith) ne, up, was, laws.mul_zero (cell w m i q), laws.add_zero 1 (omega arith))
        ]

    none_else : (i t : ℕ) → i < k → t < q + 1 → (i ≡ t → ⊥) → (i ≡ q → ⊥) → cell w m' i t ≡ 0
    none_else i t hi ht ne ne' =
        let new : cell w m' i t ≡ add (cell w m i t) (mul (cell w m i q) (cell w m q t)) = clear.there i t hi (omega arith) ne' in
        elim (cases_eq t q) [
          | inl e ↦
              let at-q : cell w m' i t ≡ add (cell w m i q) (mul (cell w m i q) (cell w m q q)) =
              new ∙ ap (λ (j : ℕ). add (cell w m i j) (mul (cell w m i q) (cell w m q j))) e in
              cc (at-q, one-q, laws.mul_one (cell w m i q) (byte i q), laws.add_self (cell w m i q))
          | inr ne'' ↦
              let was : cell w m i t ≡ 0 = red.none i t hi (omega arith) ne in
              let up : cell w m q t ≡ 0 = red.none q t hq (omega arith) (λ e. omega arith) in
              cc (new, was, up, laws.mul_zero (cell w m i q), laws.add_self 0)
        ]

    none : (i t : ℕ) → i < k → t < q + 1 → (i ≡ t → ⊥) → cell w m' i t ≡ 0
    none i t hi ht ne =
        elim (cases_eq i q) [
          | inl e ↦ ap (λ (j : ℕ). cell w m' j t) e ∙ clear.same t (omega arith) ∙ red.none q t hq (omega arith) (λ e'. omega arith)
          | inr ne' ↦ none_else i t hi ht ne ne'
        ]

    at : (zs : List ℕ) → Bytes zs → length zs ≤ w → Vanishes k w m' zs → (i : ℕ) → i < k → combine zs (cell w m i) ≡ 0
    at zs bz l v i hi =
        let row_q : combine zs (cell w m q) ≡ 0 =
        sym (combine_same zs (cell w m' q) (cell w m q) (λ t lt. clear.same t (omega arith))) ∙ v.at q hq in
        elim (cases_eq i q) [
          | inl e ↦ ap (λ (j : ℕ). combine zs (cell w m j)) e ∙ row_q
          | inr ne ↦
              let sum : combine zs (cell w m' i) ≡ add (combine zs (cell w m i)) (mul (cell w m i q) (combine zs (cell w m q))) =
              combine_add zs (cell w m i) (cell w m q) (cell w m' i) (cell w m i q) bz (byte i q) (byte q) (λ t lt. clear.there i t hi (omega arith) ne) in
              vanished (combine zs (cell w m i)) (combine zs (cell w m q)) (cell w m i q) (combine zs (cell w m' i)) (combine_byte zs (cell w m i)) sum (v.at i hi) row_q
        ]
