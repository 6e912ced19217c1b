-- From the matrix of powers and values to the coefficients: the columns are independent, the reduced matrix has the solution, and it is the only one.
use Rattle.std.proofs.Common.{◌≡◌, ℕ, suc, ◌+◌, ◌-◌, ◌*◌, ◌/◌, ◌<◌, ◌≤◌, List, length, get_or, take, drop, sym, ap, ◌∙◌, subst, subst₂, ap₂, mul-le-mul_right, suc-mul, mul_comm, arith}
use mathlib.Core.List.{Memᴰ}
use native.Mathlib.Nat.{mul-div_cancel_left}
use Rattle.std.proofs.lemmas.List.{length-append, length-take-le, length-drop, get_or_append_left, get_or-append_right, get_or-take, get_or-drop}
use Rattle.std.proofs.ByRecursion.{All-append, All-take, All-drop}
use Rattle.std.proofs.lemmas.List.FromFn.{length-map-range_with_len, get_or-map-range_with_len}
use Rattle.byte_field.specs.Byte.{IsByte}
use Rattle.elimination.specs.Polynomial.{value, Bytes, Distinct}
use Rattle.elimination.specs.Matrix.{cell, blocks, power, powers, row_of, matrix_of, column, further_columns, combine, Vanishes, Independent, Reduced, Zeros}
use Rattle.elimination.specs.Interpolation.{Interpolates, width_of}
use Rattle.elimination.proofs.Roots.{few_roots, determined, all_mem}
use Rattle.elimination.proofs.Combine.{combine_same, value_combine, power_byte}
use Rattle.elimination.proofs.Steps.{byte_at, counted_bytes, solved}
use Rattle.elimination.proofs.Blocks.{length_blocks, block_at, get_or_blocks, all_blocks, same_blocks}
use Rattle.elimination.proofs.Points.{mem_place}

module _ (points values : List ℕ) (width : ℕ) (even : length values ≡ length points * width) where
  abbrev k : ℕ
  k = length points

  abbrev w : ℕ
  w = k + width

  abbrev first : List ℕ
  first = matrix_of points values width

  powers_length : (i : ℕ) → length (powers (get_or points i 0) k) ≡ k
  powers_length i = length-map-range_with_len (power (get_or points i 0)) 0 k

  row_length : (i : ℕ) → i < k → length (row_of points values width i) ≡ w
  row_length i h =
      let inside : suc i * width ≤ k * width = mul-le-mul_right width h in
      let next : suc i * width ≡ i * width + width = suc-mul i width in
      let left : length (drop (i * width) values) ≡ length values - i * width = length-drop (i * width) values in
      let part : length (take width (drop (i * width) values)) ≡ width = length-take-le width (drop (i * width) values) (omega arith) in
      let both = length-append (powers (get_or points i 0) k) (take width (drop (i * width) values)) in
      let front = powers_length i in
      omega arith

  pub matrix_length : length first ≡ k * w
  matrix_length = length_blocks (row_of points values width) w k row_length

  -- The first columns have the powers of the points.
  cell_power : (i t : ℕ) → i < k → t < k → cell w first i t ≡ power (get_or points i 0) t
  cell_power i t h l =
      let x : ℕ = get_or points i 0 in
      let front = powers_length i in
      get_or_blocks (row_of points values width) w k i t row_length h (omega arith)
      ∙ get_or_append_left (powers x k) (take width (drop (i * width) values)) 0 t (omega arith)
      ∙ get_or-map-range_with_len (power x) 0 k t t 0 l (omega arith)

  -- The further columns have the values.
  cell_value : (i r : ℕ) → i < k → r < width → cell w first i (k + r) ≡ get_or values (i * width + r) 0
  cell_value i r h l =
      let x : ℕ = get_or points i 0 in
      let rest : List ℕ = take width (drop (i * width) values) in
      let at : k + r - k ≡ r = omega arith in
      get_or_blocks (row_of points values width) w k i (k + r) row_length h (omega arith)
      ∙ get_or-append_right (powers x k) rest k (k + r) 0 (powers_length i) (omega arith)
      ∙ ap (λ (j : ℕ). get_or rest j 0) at
      ∙ get_or-take width (drop (i * width) values) r 0 l
      ∙ get_or-drop (i * width) values r 0

  pub matrix_bytes : Bytes values → Bytes first
  matrix_bytes b =
      all_blocks IsByte (row_of points values width) k
      (λ i.
      All-append IsByte (powers (get_or points i 0) k) (take width (drop (i * width) values))
      (counted_bytes (power (get_or points i 0)) 0 k (power_byte (get_or points i 0)))
      (All-take IsByte width (drop (i * width) values) (All-drop IsByte (i * width) values b)))

  -- What combines the powers of all points to 0 is a polynomial with too many roots.
  pub independent : Bytes points → Distinct points → Independent k w first
  independent b d = record { only = only }
    where
      only : (zs : List ℕ) → Bytes zs → length zs ≤ k → Vanishes k w first zs → Zeros zs
      only zs bz l v = few_roots zs points bz b d l root
        where
          root : (x : ℕ) → Memᴰ x points → value zs x ≡ 0
          root x m =
              let place = mem_place points x m in
              let i : ℕ = place.0 in
              let hi : i < k = place.1 in
              value_combine zs x bz (all_mem IsByte points x b m)
              ∙ ap (λ (y : ℕ). combine zs (power y)) (sym place.2)
              ∙ combine_same zs (power (get_or points i 0)) (cell w first i) (λ t lt. sym (cell_power i t hi (omega arith)))
              ∙ v.at i hi

  module _ (m : List ℕ) (red : Reduced k w k first m) (bp : Bytes points) (bv : Bytes values) (some : 0 < k) where
    abbrev f : ℕ → List ℕ
    f r = column k w m (k + r)

    column_length : (r : ℕ) → length (f r) ≡ k
    column_length r = length-map-range_with_len (λ i. cell w m i (k + r)) 0 k

    column_bytes : (r : ℕ) → Bytes (f r)
    column_bytes r = counted_bytes (λ i. cell w m i (k + r)) 0 k (λ i. byte_at m (i * w + (k + r)) red.bytes)

    width_is : width_of points values ≡ width
    width_is = ap (λ (n : ℕ). n / k) even ∙ mul-div_cancel_left width some

    at : (r i : ℕ) → r < width → i < k → value (take k (drop (r * k) (blocks f width))) (get_or points i 0) ≡ get_or values (i * width + r) 0
    at r i hr hi =
        let x : ℕ = get_or points i 0 in
        ap (λ (cs : List ℕ). value cs x) (block_at f k width r (λ j l. column_length j) hr)
        ∙ value_combine (f r) x (column_bytes r) (byte_at points i bp)
        ∙ combine_same (f r) (power x) (cell w first i) (λ t lt. let long = column_length r in sym (cell_power i t hi (omega arith)))
        ∙ solved k w first m red (matrix_bytes bv) r (omega arith) i hi
        ∙ cell_value i r hi hr

    -- The columns past the first k of the reduced matrix are the polynomials.
    pub solution : Interpolates points values (blocks f width)
    solution =
        record {
          long = length_blocks f k width (λ j l. column_length j) ∙ mul_comm width k ∙ sym even;
          bytes = all_blocks IsByte f width column_bytes;
          at = λ r i hr hi. at r i (rw width_is at hr) hi ∙ ap (λ (n : ℕ). get_or values (i * n + r) 0) (sym width_is);
        }

  -- The same of a matrix, rows, a row's length and coefficients that are known by equations.
  pub ready :
      (j v : ℕ) (m : List ℕ) → j ≡ k → v ≡ w → m ≡ first → Bytes points → Bytes values → Distinct points → Bytes m × Independent j v m
  ready j v m ej ev em bp bv d =
      let P : ℕ → ℕ → Type 0 = λ j v. Bytes m × Independent j v m in
      subst₂ P (sym ej) (sym ev) (subst (λ m. Bytes m × Independent k w m) (sym em) (matrix_bytes bv, independent bp d))

  pub finished :
      (j v : ℕ) (start m out : List ℕ) → j ≡ k → v ≡ w → start ≡ first → Reduced j v j start m → out ≡ further_columns j (v - j) m → Bytes points → Bytes values → 0 < k →
      Interpolates points values out
  finished j v start m out ej ev es red eo bp bv some =
      let left : v - j ≡ width = omega arith in
      let P : ℕ → ℕ → Type 0 = λ j v. Reduced j v j first m in
      let out-is : out ≡ further_columns k width m = eo ∙ ap₂ (λ j n. further_columns j n m) ej left in
      subst (Interpolates points values) (sym out-is) (solution m (subst₂ P ej ev (subst (λ start. Reduced j v j start m) es red)) bp bv some)

-- Two lists with the same values at different points are the same.
pub only_one :
    (points values v u : List ℕ) → 0 < length points → length values ≡ length points * width_of points values → Bytes points → Distinct points →
    Interpolates points values v → Interpolates points values u → u ≡ v
only_one points values v u some even b d iv iu =
    same_blocks k n u v some (iu.long ∙ long) (iv.long ∙ long) same
  where
    k : ℕ
    k = length points

    n : ℕ
    n = width_of points values

    long : length values ≡ n * k
    long = even ∙ mul_comm k n

    same : (r : ℕ) → r < n → take k (drop (r * k) u) ≡ take k (drop (r * k) v)
    same r h =
        determined (take k (drop (r * k) u)) (take k (drop (r * k) v)) points
        (All-take IsByte k (drop (r * k) u) (All-drop IsByte (r * k) u iu.bytes))
        (All-take IsByte k (drop (r * k) v) (All-drop IsByte (r * k) v iv.bytes))
        b d
        (block_length u (iu.long ∙ long) ∙ sym (block_length v (iv.long ∙ long)))
        (let e = block_length u (iu.long ∙ long) in omega arith)
        (λ x m.
        let place = mem_place points x m in
        ap (value (take k (drop (r * k) u))) (sym place.2) ∙ iu.at r place.0 h place.1 ∙ sym (iv.at r place.0 h place.1)
        ∙ ap (value (take k (drop (r * k) v))) place.2)
      where
        block_length : (xs : List ℕ) → length xs ≡ n * k → length (take k (drop (r * k) xs)) ≡ k
        block_length xs e =
            let inside : suc r * k ≤ n * k = mul-le-mul_right k h in
            let next : suc r * k ≡ r * k + k = suc-mul r k in
            let left : length (drop (r * k) xs) ≡ length xs - r * k = length-drop (r * k) xs in
            length-take-le k (drop (r * k) xs) (omega arith)
