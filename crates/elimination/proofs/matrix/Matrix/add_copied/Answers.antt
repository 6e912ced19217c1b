-- The row is the part that was lent on.
use Rattle.std.proofs.Common.{ℕ, ◌+◌, ◌-◌, ◌*◌, ◌≤◌, List, length, ◌∙◌, arith}
use Rattle.std.proofs.lemmas.List.{take_at}
use borrow.Rule.Slice.PartMut.{put_mid}
use Rattle.elimination.specs.Matrix.{RowAdded}
use Rattle.elimination.proofs.Cells.{row_added, row_within}
use Rattle.elimination.proofs.matrix.Matrix.add_copied.Goals as goal

pub returns-clause-added : goal.returns-clause-added
returns-clause-added c =
    let w : ℕ = c.args.self.now.width in
    let i : ℕ = c.args.i in
    let m : List ℕ = c.deref_mut.result.now in
    let within : i * w + w ≤ length m = row_within c.args.self.now.rows w i (length m) (c.deref_mut.ensures.len ∙ c.args.self.now.cells_fit) c.requires in
    let added : RowAdded w i c.args.factor c.deref.result.now m (put_mid (i * w) (i * w + w - i * w) m c.add_scaled.new.dst) =
    row_added w i (i * w + w - i * w) c.args.factor m c.deref.result.now c.add_scaled.new.dst (omega arith) within
    (c.deref.ensures.len ∙ c.args.self.now.copied_fits) c.add_scaled.ensures in
    rw (
      take_at (put_mid (i * w) (i * w + w - i * w) m c.add_scaled.new.dst) _ c.args.self.now.cells.len (added.long ∙ c.deref_mut.ensures.len),
      ← c.deref.ensures.value,
      ← c.deref_mut.ensures.value,
    ) added
