-- One column more.
use Rattle.std.proofs.Common.{◌≡◌, ℕ, ◌+◌, ◌-◌, List, ◌++◌, ap, ◌∙◌, arith}
use Rattle.elimination.specs.Matrix.{blocks, column}
use Rattle.elimination.proofs.Blocks.{columns_more}
use Rattle.elimination.proofs.matrix.Matrix.further_columns.Goals as goal

pub loop-c-init : goal.loop-c-init
unfolding blocks
loop-c-init c =
    let k : ℕ = c.args.self.now.rows in
    let w : ℕ = c.args.self.now.width in
    let none : 0 ≡ k - k = omega arith in
    c.in_ok-out.ensures.items ∙ ap (blocks (λ r. column k (k + (w - k)) c.args.self.now.cells.items (k + r))) none

pub loop-c-preserved : goal.loop-c-preserved
loop-c-preserved c =
    let m : List ℕ = c.args.self.now.cells.items in
    c.in_ok-push_column.ensures ∙ ap (λ (l : List ℕ). l ++ column c.args.self.now.rows c.args.self.now.width m c.loop-c.c) c.loop-c.invariant
    ∙ columns_more c.args.self.now.rows c.args.self.now.width c.loop-c.c m (omega arith) (omega arith)
