-- The matrix is fit to be reduced, and the reduced one has the coefficients.
use Rattle.std.proofs.Common.{◌≡◌, ℕ, ◌-◌, List, vec_items}
use Rattle.std.proofs.lemmas.Result.{IfOk-weaker}
use Rattle.std.specs.Result.{IfOk}
use Rattle.elimination.specs.Interpolation.{Interpolates}
use Rattle.elimination.specs.Matrix.{further_columns}
use Rattle.elimination.proofs.Points.{typed_bytes}
use Rattle.elimination.proofs.Shapes.{of_first}
use Rattle.elimination.proofs.Solution.{ready, finished}
use Rattle.elimination.proofs.solve.Goals as goal

pub reduce-requires-clause-given : goal.reduce-requires-clause-given
reduce-requires-clause-given c =
    let points : List ℕ = c.args.points.now in
    let values : List ℕ = c.args.values.now in
    ready points values c.args.width c.requires.1.0 c.in_ok-m.m.rows c.in_ok-m.m.width c.in_ok-m.m.cells.items c.in_ok-m.ensures.shape.0
    c.in_ok-m.ensures.shape.1 c.in_ok-m.ensures.cells (typed_bytes points c.type_inv.points) (typed_bytes values c.type_inv.values) c.requires.1.1

pub returns : goal.returns
returns c =
    let points : List ℕ = c.args.points.now in
    let values : List ℕ = c.args.values.now in
    let j : ℕ = c.in_ok-m.m.rows in
    let v : ℕ = c.in_ok-m.m.width in
    let m : List ℕ = c.reduce.new.self.cells.items in
    IfOk-weaker c.further_columns.result (λ out. vec_items out ≡ further_columns j (v - j) m) (λ out. Interpolates points values (vec_items out))
    (λ out is.
    finished points values c.args.width c.requires.1.0 j v c.in_ok-m.m.cells.items m (vec_items out) c.in_ok-m.ensures.shape.0 c.in_ok-m.ensures.shape.1
    c.in_ok-m.ensures.cells c.reduce.ensures.reduced is (typed_bytes points c.type_inv.points) (typed_bytes values c.type_inv.values) c.requires.0)
    (of_first (λ j v. IfOk c.further_columns.result (λ out. vec_items out ≡ further_columns j (v - j) m)) c.reduce.ensures.shape c.further_columns.ensures)
