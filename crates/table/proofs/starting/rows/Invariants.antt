use Rattle.std.proofs.Common.{◌≡◌, map, replicate, take, vec_items, vec_len}
use Rattle.keeper.specs.Shown.{known_of}
use Rattle.table.specs.Table.{knowing_of}
use Rattle.table.proofs.starting.rows.Given as goal

-- A row was made for each bar that was met.
abbrev pub invariant-loop-bar : goal.invariant-loop-bar
invariant-loop-bar l =
    (map (λ r. known_of r.known) (vec_items l.rows) ≡ replicate l.bar-index (knowing_of l.version))
    × (map (λ r. r.bar) (vec_items l.rows) ≡ take l.bar-index l.bars)
    × (vec_len l.rows ≡ l.bar-index)
