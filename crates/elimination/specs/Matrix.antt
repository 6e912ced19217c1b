-- Matrices of bytes that stand row after row in one list, and what elimination keeps true of them.
-- Assumes nothing.
use Rattle.std.specs.Prelude.{◌≡◌, ℕ, zero, suc, ◌+◌, ◌*◌, ◌<◌, ◌≤◌, List, [], ◌∷◌, ◌++◌, map, length, take, drop, Some, None, Option, ◌≢◌, slice_index}
use Rattle.std.specs.List.{range_with_len, AllByRecursion}
use Rattle.byte_field.specs.Byte.{add, mul, inv}
use Rattle.elimination.specs.Polynomial.{Bytes}

-- The entry in row i and column t of a matrix whose rows have w entries.
abbrev pub cell : (w : ℕ) (m : List ℕ) (i t : ℕ) → ℕ
cell w m i t = slice_index m (i * w + t)

-- So many blocks, one after the other.
unfoldable pub blocks : (ℕ → List ℕ) → ℕ → List ℕ
blocks f zero = []
blocks f (suc n) = blocks f n ++ f n

-- x to the t.
unfoldable pub power : ℕ → ℕ → ℕ
power x zero = 1
power x (suc t) = mul x (power x t)

-- The first k powers of x.
abbrev pub powers : ℕ → ℕ → List ℕ
powers x k = map (power x) (range_with_len 0 k)

-- The matrix to start from: a row for each point, with the powers of the point and then the values there.
abbrev pub row_of : (points values : List ℕ) (width i : ℕ) → List ℕ
row_of points values width i = powers (slice_index points i) (length points) ++ take width (drop (i * width) values)

abbrev pub matrix_of : (points values : List ℕ) (width : ℕ) → List ℕ
matrix_of points values width = blocks (row_of points values width) (length points)

-- Column c from the top: the entries of its first k rows.
abbrev pub column : (k w : ℕ) (m : List ℕ) (c : ℕ) → List ℕ
column k w m c = map (λ i. cell w m i c) (range_with_len 0 k)

-- What stands in the columns past the first k of a matrix with k rows, column after column.
abbrev pub further_columns : (k width : ℕ) (m : List ℕ) → List ℕ
further_columns k width m = blocks (λ r. column k (k + width) m (k + r)) width

-- The sum of the products of coefficients with what stands at their places.
unfoldable pub combine : List ℕ → (ℕ → ℕ) → ℕ
combine [] f = 0
combine (z ∷ zs) f = add (mul z (f 0)) (combine zs (λ t. f (suc t)))

-- Coefficients that combine the columns to 0 in each of k rows.
pub record Vanishes (k w : ℕ) (m zs : List ℕ) : Type 0 where
  pub at : (i : ℕ) → i < k → combine zs (cell w m i) ≡ 0

-- All elements are 0.
abbrev pub Zeros : List ℕ → Type 0
Zeros zs = AllByRecursion (λ z. z ≡ 0) zs

-- The first k columns of a matrix with k rows are independent: only zeros combine them to 0.
pub record Independent (k w : ℕ) (m : List ℕ) : Type 0 where
  pub only : (zs : List ℕ) → Bytes zs → length zs ≤ k → Vanishes k w m zs → Zeros zs

-- The first q columns are those of the unit matrix; and what vanishes on all rows of this matrix vanishes on all rows of the first.
pub record Reduced (k w q : ℕ) (first m : List ℕ) : Type 0 where
  pub long : length m ≡ k * w
  pub bytes : Bytes m
  pub one : (i : ℕ) → i < q → cell w m i i ≡ 1
  pub none : (i t : ℕ) → i < k → t < q → (i ≢ t) → cell w m i t ≡ 0
  pub kept : (zs : List ℕ) → Bytes zs → length zs ≤ w → Vanishes k w m zs → Vanishes k w first zs

-- Row i has got so many times the entries of a list added; all other rows are as they were.
pub record RowAdded (w i factor : ℕ) (source m m' : List ℕ) : Type 0 where
  pub long : length m' ≡ length m
  pub there : (t : ℕ) → t < w → cell w m' i t ≡ add (cell w m i t) (mul factor (slice_index source t))
  pub elsewhere : (j t : ℕ) → t < w → (j ≢ i) → cell w m' j t ≡ cell w m j t

-- What a search for a pivot of column q finds: the first row from row q on whose entry isn't 0, or that there is none.
abbrev pub Found : (k w q : ℕ) (m : List ℕ) → Option ℕ → Type 0
Found k w q m None = (i : ℕ) → q ≤ i → i < k → cell w m i q ≡ 0
Found k w q m (Some p) = (q ≤ p) × (p < k) × (1 ≤ cell w m p q) × ((i : ℕ) → q ≤ i → i < p → cell w m i q ≡ 0)

-- What row q gets row p times, so that its entry in column q becomes 1.
abbrev pub leading : (w q p : ℕ) (m : List ℕ) → ℕ
leading w q p m = mul (add 1 (cell w m q q)) (inv (cell w m p q))

-- Row q has got row p added, so that its entry in column q is 1.
pub record Led (w q p : ℕ) (m m' : List ℕ) : Type 0 where
  pub long : length m' ≡ length m
  pub there : (t : ℕ) → t < w → cell w m' q t ≡ add (cell w m q t) (mul (leading w q p m) (cell w m p t))
  pub elsewhere : (j t : ℕ) → t < w → (j ≢ q) → cell w m' j t ≡ cell w m j t

-- Of the first n rows each but row q has got row q added as often as its entry in column q says; all other rows are as they were.
pub record Cleared (n w q : ℕ) (m m' : List ℕ) : Type 0 where
  pub long : length m' ≡ length m
  pub there : (i t : ℕ) → i < n → t < w → (i ≢ q) → cell w m' i t ≡ add (cell w m i t) (mul (cell w m i q) (cell w m q t))
  pub after : (i t : ℕ) → n ≤ i → t < w → cell w m' i t ≡ cell w m i t
  pub same : (t : ℕ) → t < w → cell w m' q t ≡ cell w m q t
