-- One entry more is pushed.
use Rattle.std.proofs.Common.{ℕ, List, [], ◌∷◌, ◌++◌, vec_items, sym, ap, ◌∙◌, arith}
use Rattle.std.proofs.lemmas.List.{append-nil}
use Rattle.elimination.specs.Matrix.{cell, column}
use Rattle.elimination.proofs.Blocks.{counted_more}
use Rattle.elimination.proofs.matrix.Matrix.push_column.Goals as goal

pub loop-i-init : goal.loop-i-init
loop-i-init c = sym (append-nil (vec_items c.args.out.now))

pub loop-i-preserved : goal.loop-i-preserved
loop-i-preserved c =
    let w : ℕ = c.args.self.now.width in
    let m : List ℕ = c.args.self.now.cells.items in
    c.in_ok-push.ensures.items ∙ ap (λ (l : List ℕ). l ++ c.entry.result ∷ []) c.loop-i.invariant
    ∙ ap (λ (x : ℕ). (vec_items c.args.out.now ++ column c.loop-i.i w m c.args.c) ++ x ∷ []) c.entry.ensures
    ∙ counted_more (vec_items c.args.out.now) (λ i. cell w m i c.args.c) c.loop-i.i
