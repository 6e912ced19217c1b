-- Points and values that are not refused can be solved, and in one way only.
use Rattle.std.proofs.Common.{◌≡◌, ℕ, ◌*◌, ◌/◌, List, length, vec_items, sym, arith}
use native.Mathlib.Nat.{div-add-mod}
use Rattle.elimination.proofs.Points.{distinct_from, reason_none, typed_bytes}
use Rattle.elimination.proofs.Solution.{only_one}
use Rattle.elimination.proofs.interpolate.Goals as goal

pub solve-requires : goal.solve-requires
solve-requires c =
    (omega arith, (omega (arith, div-add-mod (length c.args.values.now) (length c.args.points.now)), distinct_from c.args.points.now (sym c.if-has_repeat.ensures)))

pub returns : goal.returns
returns c =
    let points : List ℕ = c.args.points.now in
    let values : List ℕ = c.args.values.now in
    let v : List ℕ = vec_items c.in_ok-solve.field-0 in
    let different = sym c.if-has_repeat.ensures in
    let even : length values ≡ length points * (length values / length points) = omega (arith, div-add-mod (length values) (length points)) in
    record {
      allowed = reason_none points values c.if-k-eq0.false c.if-values-k-ne0.false different;
      interpolates = c.in_ok-solve.ensures;
      only = λ u fits.
          only_one points values v u (omega arith) even (typed_bytes points c.type_inv.points) (distinct_from points different) c.in_ok-solve.ensures fits;
    }
