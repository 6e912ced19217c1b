use Rattle.std.proofs.Common.{◌≡◌, ◌+◌, ◌-◌, ◌*◌, length, get_or, drop, sym, ap, ◌∙◌, arith}
use Rattle.std.proofs.lemmas.List.{get_or-replicate}
use Rattle.byte_field.specs.Byte.{add}
use Rattle.elimination.specs.Polynomial.{value}
use Rattle.pieces.proofs.Values.{row, past_row, before_column, values_are, row_inside}
use Rattle.pieces.proofs.rows.Rows.evaluate.Goals as goal

pub loop-column-init : goal.loop-column-init
loop-column-init c r h =
    ap (λ p. get_or p r 0) c.requires.1 ∙ get_or-replicate (length c.args.piece.now) r 0 0 h
    ∙ sym (past_row c.args.self.now.need.count c.args.self.now.flat.items r c.args.x)

pub loop-column-preserved : goal.loop-column-preserved
loop-column-preserved c r h =
    c.add_column.ensures r (omega arith)
    ∙ ap (add (get_or c.args.self.now.flat.items (r * c.args.self.now.need.count + (c.loop-column.column - 1)) 0)) (c.scale.ensures r (omega arith))
    ∙ before_column c.args.self.now.need.count c.args.self.now.flat.items r (c.loop-column.column - 1) c.loop-column.column c.args.x _ (omega arith) (omega arith)
    (row_inside c.args.self.now.need.count (length c.args.piece.now) c.args.self.now.flat.items r h (omega arith)) (c.loop-column.invariant r h)

pub returns : goal.returns
returns c =
    let e : c.loop-column.column ≡ 0 = omega arith in
    values_are c.args.self.now.need.count (length c.args.piece.now) c.args.x c.args.self.now.flat.items c.loop-column.piece (omega arith)
    (λ r h. c.loop-column.invariant r h ∙ ap (λ k. value (drop k (row c.args.self.now.need.count c.args.self.now.flat.items r)) c.args.x) e)
