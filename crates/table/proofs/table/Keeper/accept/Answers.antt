use Rattle.std.proofs.Common.{refl, vec_items, rules}
use Rattle.std.proofs.lemmas.List.{map-set}
use Rattle.keeper.specs.Shown.{known_of}
use Rattle.table.specs.declared.table.Row.{Row}
use Rattle.table.proofs.table.Keeper.accept.Goals as goal

pub returns : goal.returns
returns c =
    let row : Row = record { known = c.args.state.known; bar = c.args.state.bar } in
    record {
      need = refl;
      drives = refl;
      known = map-set (λ r. known_of r.known) (vec_items c.args.self.now.rows) c.args.object row;
      bars = map-set (λ r. r.bar) (vec_items c.args.self.now.rows) c.args.object row;
      next = search rules;
      number = search rules;
    }
