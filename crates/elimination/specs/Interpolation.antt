-- What it is to work polynomials out of their values, and when that is refused.
-- Assumes nothing.
use Rattle.std.specs.Prelude.{◌≡◌, ℕ, ◌+◌, ◌*◌, ◌/◌, ◌%◌, ◌<◌, Bool, false, cond, ◌||◌, List, [], ◌∷◌, length, take, drop, ◌==◌, slice_index}
use Rattle.elimination.specs.declared.Unsolved.{Unsolved}
use Rattle.elimination.specs.declared.Unsolved.TheVariants.{NoPoints, Uneven, SamePoint, NoMemory}
use Rattle.elimination.specs.Polynomial.{value, Bytes}

-- Each refusal's number; of several that apply the lowest is told.
abbrev pub number : Unsolved → ℕ
number NoPoints = 0
number Uneven = 1
number SamePoint = 2
number NoMemory = 3

-- Does a number stand in a list.
unfoldable pub is_in : ℕ → List ℕ → Bool
is_in x [] = false
is_in x (y ∷ ys) = y == x || is_in x ys

-- Does an element stand twice.
unfoldable pub repeated : List ℕ → Bool
repeated [] = false
repeated (x ∷ xs) = is_in x xs || repeated xs

-- The number of the refusal that points and values ask for: no points; not the same number of values at each; a point twice.
-- 3 where they ask for none, so that nothing but want of memory can stop the work.
abbrev pub reason : (points values : List ℕ) → ℕ
reason points values =
    cond (length points == 0) 0 (cond (length values % length points == 0) (cond (repeated points) 2 3) 1)

-- The values stand point after point, the same number at each point.
abbrev pub width_of : (points values : List ℕ) → ℕ
width_of points values = length values / length points

-- `v` has polynomial after polynomial, each with as many coefficients as there are points, and these have the values.
pub record Interpolates (points values v : List ℕ) : Type 0 where
  pub long : length v ≡ length values
  pub bytes : Bytes v
  pub at :
      (r i : ℕ) → r < width_of points values → i < length points →
      value (take (length points) (drop (r * length points) v)) (slice_index points i) ≡ slice_index values (i * width_of points values + r)

-- Nothing was to be refused; `v` has the values, and nothing else of bytes has.
pub record Solved (points values v : List ℕ) : Type 0 where
  pub allowed : reason points values ≡ 3
  pub interpolates : Interpolates points values v
  pub only : (u : List ℕ) → Interpolates points values u → u ≡ v
