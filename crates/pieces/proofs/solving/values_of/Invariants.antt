use Rattle.std.proofs.Common.{◌≡◌, take, vec_items}
use Rattle.std.specs.List.{flat_map}
use Rattle.pieces.proofs.solving.values_of.Given as goal

abbrev pub invariant-loop-piece : goal.invariant-loop-piece
invariant-loop-piece l = vec_items l.values ≡ flat_map (λ p. vec_items p.bytes) (take l.piece-index l.pieces)
