-- A pivot is there, since the columns are independent; a turn reduces one column more.
use Rattle.std.proofs.Common.{◌≡◌, ℕ, ◌<◌, ◌≤◌, List, None, arith}
use Rattle.elimination.specs.Matrix.{cell, Found, Led, Cleared}
use Rattle.elimination.specs.Shape.{SameShape}
use Rattle.elimination.proofs.Shapes.{same_shape, of_first}
use Rattle.elimination.proofs.Steps.{pivot_there, led_reduced, led_one, cleared_reduced}
use Rattle.elimination.proofs.matrix.Matrix.reduce.Goals as goal

pub unreachable-requires : goal.unreachable-requires
unreachable-requires c =
    let q : ℕ = c.loop-q.q in
    let m : List ℕ = c.loop-q.self.cells.items in
    pivot_there c.args.self.now.rows c.args.self.now.width q c.args.self.now.cells.items m c.loop-q.invariant.1 (omega arith) (omega arith) c.requires.given.1
    (of_first (λ k w. Found k w q m None) c.loop-q.invariant.0 c.in_default.ensures)

pub loop-q-preserved : goal.loop-q-preserved
loop-q-preserved c =
    let k : ℕ = c.args.self.now.rows in
    let w : ℕ = c.args.self.now.width in
    let q : ℕ = c.loop-q.q in
    let p : ℕ = c.in-Some.p in
    let first : List ℕ = c.args.self.now.cells.items in
    let m : List ℕ = c.loop-q.self.cells.items in
    let m' : List ℕ = c.lead.new.self.cells.items in
    let m'' : List ℕ = c.clear_column.new.self.cells.items in
    let shape : SameShape c.args.self.now c.loop-q.self = c.loop-q.invariant.0 in
    let shape' : SameShape c.args.self.now c.lead.new.self = same_shape shape c.lead.ensures.shape in
    let found = of_first (λ k w. (q ≤ p) × (p < k) × (1 ≤ cell w m p q) × ((i : ℕ) → q ≤ i → i < p → cell w m i q ≡ 0)) shape c.in-Some.ensures in
    let led : Led w q p m m' = of_first (λ k w. Led w q p m m') shape c.lead.ensures.led in
    let cleared : Cleared k w q m' m'' = of_first (λ k w. Cleared k w q m' m'') shape' c.clear_column.ensures.cleared in
    let wide : k ≤ w = omega arith in (
      same_shape shape' c.clear_column.ensures.shape,
      cleared_reduced k w q first m' m'' (led_reduced k w q p first m m' c.loop-q.invariant.1 led wide found.0 found.1 found.2) cleared
          (led_one k w q p first m m' c.loop-q.invariant.1 led wide found.0 found.1 found.2) (omega arith) wide,
    )
