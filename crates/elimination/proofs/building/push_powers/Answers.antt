-- A power more is pushed.
use Rattle.std.proofs.Common.{ℕ, List, [], ◌∷◌, ◌++◌, vec_items, sym, refl, ap, ◌∙◌, ap₂, add-one, arith}
use Rattle.std.proofs.lemmas.List.{append-nil}
use Rattle.byte_field.specs.Byte.{mul}
use Rattle.elimination.specs.Matrix.{power}
use Rattle.elimination.proofs.Blocks.{counted_more}
use Rattle.elimination.proofs.building.push_powers.Goals as goal

pub loop-t-init : goal.loop-t-init
unfolding power
loop-t-init c = (sym (append-nil (vec_items c.args.cells.now)), refl, omega arith)

pub loop-t-preserved : goal.loop-t-preserved
unfolding power
loop-t-preserved c =
    let x : ℕ = c.args.x in
    let t : ℕ = c.loop-t._t in (
      c.in_ok-push.ensures.items ∙ ap₂ (λ (l : List ℕ) (y : ℕ). l ++ y ∷ []) c.loop-t.invariant.0 c.loop-t.invariant.1
          ∙ counted_more (vec_items c.args.cells.now) (power x) t,
      c.product-next.ensures ∙ ap (mul x) c.loop-t.invariant.1 ∙ sym (ap (power x) (add-one t)),
      c.product-next.type_inv,
    )
