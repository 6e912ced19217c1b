use Rattle.std.proofs.Common.{◌≡◌, ℕ, ◌+◌, ◌*◌, List, length, sym, ap, ◌∙◌, ap₂, arith}
use Rattle.std.proofs.lemmas.List.{take_at}
use Rattle.pieces.specs.Rows.{framed, values, piece_of}
use Rattle.pieces.proofs.Frame.{rows_of}
use Rattle.pieces.proofs.making.make.Goals as goal

pub returns : goal.returns
unfolding piece_of
returns c =
    let need : ℕ = c.args.need in
    let object : List ℕ = c.args.object.now in
    let flat : List ℕ = c.in_ok-rows.rows.flat.items in
    let count : ℕ = length c.deref_mut.result.now in
    let count-is : count ≡ c.count.result = c.deref_mut.ensures.len ∙ c.in_ok-piece.ensures.len in
    let need-is : c.in_ok-rows.rows.need.count ≡ need = c.in_ok-rows.ensures.0 ∙ c.in_ok-need.ensures in
    let flat-is : flat ≡ framed need object = c.in_ok-rows.ensures.1 ∙ ap (λ k. framed k object) c.in_ok-need.ensures in
    let whole : count * need ≡ length (framed need object) =
    ap₂ (λ n k. n * k) count-is (sym need-is) ∙ sym c.count.ensures ∙ c.in_ok-rows.rows.flat.ok.0 ∙ ap length flat-is in
    record {
      need_is = (omega arith, omega arith);
      drive_is = omega arith;
      length_is = omega arith;
      piece_is =
          take_at c.evaluate.new.piece _ c.in_ok-piece.piece.len (omega arith)
          ∙ c.evaluate.ensures
          ∙ ap (λ k. values k count (c.args.drive + 1) flat) need-is
          ∙ ap₂ (λ k f. values need k (c.args.drive + 1) f) (rows_of need object count (omega arith) whole) flat-is;
    }
