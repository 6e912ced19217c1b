use Rattle.std.proofs.Common.{vec_items, set, map, ap, ◌∙◌}
use Rattle.std.proofs.Math.Seq.{map-set_same}
use Rattle.std.proofs.lemmas.List.{map-set}
use Rattle.keeper.specs.Shown.{known_of}
use Rattle.table.proofs.objects.take_row.Goals as goal

pub returns-clause-after : goal.returns-clause-after
returns-clause-after c =
    map-set (λ r. known_of r.known) (vec_items c.args.rows.now) c.args.at _
    ∙ ap (λ k. set (map (λ r. known_of r.known) (vec_items c.args.rows.now)) c.args.at (known_of k)) c.replace-known.ensures.after

pub returns-clause-bars : goal.returns-clause-bars
returns-clause-bars c =
    map-set_same (λ r. r.bar) (vec_items c.args.rows.now) c.args.at _ c.index_mut-row.result.now (ap (λ r. r.bar) c.index_mut-row.ensures.value)
