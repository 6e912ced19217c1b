-- What `product` has summed up after so many bits, with the product that is left, is the whole.
-- Assumes nothing.
use Rattle.std.proofs.Common.{◌≡◌}
use Rattle.byte_field.specs.Byte.{IsByte}
use Rattle.byte_field.proofs.Turns.{with_rest}
use Rattle.byte_field.proofs.field.product.Given as goal

abbrev pub invariant-loop-i : goal.invariant-loop-i
invariant-loop-i l = IsByte l.total × (with_rest l.i l.total l.shifted l.b ≡ with_rest 0 0 l.a l.b)
