use Rattle.std.proofs.Common.{vec_items, refl, ◌∙◌}
use Rattle.std.proofs.lemmas.Result.{err_from_is_err_and}
use Rattle.pieces.specs.Given.{IsDrive}
use Rattle.pieces.proofs.Joining.{rows_found, not_found}
use Rattle.pieces.proofs.Loops.{part_is}
use Rattle.pieces.proofs.solving.solve.Goals as goal

pub points_of-requires : goal.points_of-requires
points_of-requires c k d h = part_is (λ p. p.drive) IsDrive c.args.pieces.now k d h c.requires.0.1

pub returns-in_err-flat : goal.returns-in_err-flat
returns-in_err-flat c =
    let p = err_from_is_err_and c.from_residual-in_err-flat.result c.from_residual-in_err-flat.ensures.1 in
    rw (p.1, p.2)
    (not_found c.args.need.count c.args.pieces.now c.deref.result.now c.deref-2.result.now _ c.requires
    (c.deref.ensures.value ∙ c.in_ok-points.ensures) (c.deref-2.ensures.value ∙ c.in_ok-values.ensures) c.in_err-flat.ensures)

pub returns : goal.returns
returns c =
    let rows =
    rows_found c.args.need.count c.args.pieces.now c.deref.result.now c.deref-2.result.now (vec_items c.in_ok-flat.flat) c.requires
    (c.deref.ensures.value ∙ c.in_ok-points.ensures) (c.deref-2.ensures.value ∙ c.in_ok-values.ensures) c.in_ok-flat.ensures in
    (refl, rows.0, rows.1)
