-- The values of a point stand among the values, and a row more is pushed.
use Rattle.std.proofs.Common.{◌≡◌, ℕ, ◌+◌, ◌-◌, ◌*◌, List, ◌++◌, length, get_or, take, drop, sym, ap, ◌∙◌, arith, rules}
use Rattle.std.proofs.lemmas.List.{append_assoc}
use Rattle.elimination.specs.Matrix.{blocks, row_of, powers}
use Rattle.elimination.proofs.Blocks.{blocks_more}
use Rattle.elimination.proofs.Solution.{matrix_length}
use Rattle.elimination.proofs.matrix.Matrix.of.Goals as goal

pub loop-i-init : goal.loop-i-init
unfolding blocks
loop-i-init c = c.in_ok-cells.ensures.items

pub loop-i-preserved : goal.loop-i-preserved
loop-i-preserved c =
    let points : List ℕ = c.args.points.now in
    let values : List ℕ = c.args.values.now in
    let width : ℕ = c.args.width in
    let i : ℕ = c.loop-i.i in
    let f : ℕ → List ℕ = row_of points values width in
    let front : List ℕ = powers (get_or points i 0) (length points) in
    let part : ℕ → List ℕ = λ n. take n (drop (i * width) values) in
    let n : i * width + width - i * width ≡ width = omega arith in
    c.in_ok-extend_from_slice.ensures.items
    ∙ ap (λ (l : List ℕ). l ++ part (i * width + width - i * width)) (c.in_ok-push_powers.ensures ∙ ap (λ (l : List ℕ). l ++ front) c.loop-i.invariant)
    ∙ ap (λ (j : ℕ). (blocks f i ++ front) ++ part j) n
    ∙ append_assoc (blocks f i) front (part width)
    ∙ blocks_more f i

pub invariant_of-result-clause-cells_fit : goal.invariant_of-result-clause-cells_fit
invariant_of-result-clause-cells_fit c =
    let k : ℕ = length c.args.points.now in
    let all : c.loop-i.i ≡ k = omega arith in
    let wide : c.in_ok-wide.wide ≡ k + c.args.width = search rules in
    c.loop-i.cells.ok.0 ∙ ap length (c.loop-i.invariant ∙ ap (blocks (row_of c.args.points.now c.args.values.now c.args.width)) all)
    ∙ matrix_length c.args.points.now c.args.values.now c.args.width c.requires ∙ ap (λ n. k * n) (sym wide)
