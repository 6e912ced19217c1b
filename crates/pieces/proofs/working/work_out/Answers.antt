use Rattle.std.proofs.Common.{◌≡◌, ℕ, List, vec_items, ◌∙◌, subst, MatchResult}
use Rattle.std.proofs.lemmas.Result.{err_from_is_err_and, MatchResult-weaker}
use Rattle.pieces.specs.Given.{OneLength, RowsOf, Sound}
use Rattle.pieces.specs.Outcomes.{Read}
use Rattle.pieces.specs.Refusals.{NotRead, NotWorked}
use Rattle.pieces.specs.declared.working.Piece.{Piece}
use Rattle.pieces.proofs.Uniqueness.{outcome, read_worked, not_worked}
use Rattle.pieces.proofs.working.work_out.Goals as goal

pub returns-in_err-examine : goal.returns-in_err-examine
returns-in_err-examine c =
    let p = err_from_is_err_and c.from_residual-in_err-examine.result c.from_residual-in_err-examine.ensures.1 in
    let refused = subst (λ n. NotWorked n c.args.pieces.now c.in_err-examine.field-0.0) c.in_ok-need.ensures c.in_err-examine.ensures in
    rw (p.1, p.2) (outcome c.args.need c.args.pieces.now _ refused)

pub returns-in_err-rows : goal.returns-in_err-rows
returns-in_err-rows c =
    let p = err_from_is_err_and c.from_residual-in_err-rows.result c.from_residual-in_err-rows.ensures.1 in
    let refused = subst (λ n. NotWorked n c.args.pieces.now c.in_err-rows.field-0.0) c.in_ok-need.ensures c.in_err-rows.ensures in
    rw (p.1, p.2) (outcome c.args.need c.args.pieces.now _ refused)

pub returns : goal.returns
returns c =
    let need : ℕ = c.args.need in
    let ps : List Piece = c.args.pieces.now in
    let flat : List ℕ = c.in_ok-rows.rows.flat.items in
    let found = c.in_ok-rows.ensures in
    let sound : Sound need ps = (subst (λ n. OneLength n ps) c.in_ok-need.ensures c.in_ok-examine.ensures, found.1) in
    let rows : RowsOf need ps flat = subst (λ n. RowsOf n ps flat) c.in_ok-need.ensures found.2 in
    let need-is : c.in_ok-rows.rows.need.count ≡ need = found.0 ∙ c.in_ok-need.ensures in
    outcome need ps c.read.result
    (MatchResult-weaker c.read.result (subst (λ n. MatchResult c.read.result (λ v. Read n flat (vec_items v)) (NotRead n flat)) need-is c.read.ensures)
    (λ v r. read_worked need ps flat (vec_items v) sound rows r)
    (λ e n. not_worked need ps flat e sound rows n))
