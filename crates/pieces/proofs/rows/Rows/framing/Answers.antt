-- The rows are filled up with zeros, and are whole.
use Rattle.std.proofs.Common.{◌≡◌, ℕ, ◌%◌, List, ◌++◌, length, refl, ap, ◌∙◌, mul_comm, rules}
use native.Mathlib.Nat.{mul-mod_right}
use Rattle.pieces.specs.Rows.{length_bytes, rows_for}
use Rattle.pieces.proofs.Frame.{resized}
use Rattle.pieces.proofs.rows.Rows.framing.Goals as goal

pub invariant_of-result : goal.invariant_of-result
invariant_of-result c =
    let need : ℕ = c.args.need.count in
    let rows : ℕ = rows_for need (length c.args.object.now) in
    record { whole = ap (λ n. n % need) (c.in_ok-resize.ensures.len ∙ c.framed_size-size.ensures.is ∙ mul_comm rows need) ∙ mul-mod_right need rows }

pub returns : goal.returns
returns c =
    let object : List ℕ = c.args.object.now in
    let flat : List ℕ = c.extend_from_slice-2.new.self.items in
    let full : flat ≡ length_bytes (length object) ++ object = search rules in
    (refl, c.in_ok-resize.ensures.items ∙ resized c.args.need.count object flat c.framed_size-size.result c.extend_from_slice-2.new.self.len full c.extend_from_slice-2.new.self.ok.0 c.framed_size-size.ensures.is c.framed_size-size.ensures.holds)
