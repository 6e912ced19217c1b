-- That bytes are a field: what sums and products of bytes obey.
-- Assumes nothing.
use Rattle.std.specs.Prelude.{◌≡◌, ℕ, ◌≤◌}
use Rattle.byte_field.specs.Byte.{add, mul, inv, IsByte}

pub record Field : Type 0 where
  -- sums and products of bytes are bytes
  pub add_closed : (a b : ℕ) → IsByte a → IsByte b → IsByte (add a b)
  pub mul_closed : (a b : ℕ) → IsByte a → IsByte b → IsByte (mul a b)
  -- in any order, and grouped in any way
  pub add_commutes : (a b : ℕ) → IsByte a → IsByte b → add a b ≡ add b a
  pub mul_commutes : (a b : ℕ) → IsByte a → IsByte b → mul a b ≡ mul b a
  pub add_associates : (a b c : ℕ) → IsByte a → IsByte b → IsByte c → add (add a b) c ≡ add a (add b c)
  pub mul_associates : (a b c : ℕ) → IsByte a → IsByte b → IsByte c → mul (mul a b) c ≡ mul a (mul b c)
  pub distributes : (a b c : ℕ) → IsByte a → IsByte b → IsByte c → mul a (add b c) ≡ add (mul a b) (mul a c)
  -- 0 changes no sum, 1 changes no product
  pub add_neutral : (a : ℕ) → IsByte a → add a 0 ≡ a
  pub mul_neutral : (a : ℕ) → IsByte a → mul a 1 ≡ a
  -- every byte is its own negative, and every byte but 0 has an inverse
  pub negative : (a : ℕ) → IsByte a → add a a ≡ 0
  pub inv_closed : (a : ℕ) → IsByte a → 1 ≤ a → IsByte (inv a)
  pub inverse : (a : ℕ) → IsByte a → 1 ≤ a → mul a (inv a) ≡ 1
  -- so that a quotient times what was divided by is what was divided
  pub divides : (a b : ℕ) → IsByte a → IsByte b → 1 ≤ b → mul (mul a (inv b)) b ≡ a
