use Rattle.std.proofs.Common.{refl, rules, tests}
use Rattle.std.proofs.lemmas.Iterator.{YieldsList-from_slice}
use Rattle.std.proofs.lemmas.Iterator.Search.{find_from_yields_List}
use Rattle.keeper.specs.Readings.{is_of}
use Rattle.keeper.specs.Shown.{reading_of}
use Rattle.keeper.proofs.Scan.{own_place_found}
use Rattle.keeper.proofs.readings.own_place.Goals as goal

pub returns-in_err-own : goal.returns-in_err-own
returns-in_err-own c =
    let found = find_from_yields_List (λ e. is_of c.args.drive c.args.version (reading_of e)) _ _ c.find.result c.find.ensures.ran (YieldsList-from_slice c.args.entries.now (cc)) (λ x b q k. search (rules, tests)) in
    rw (own_place_found c.args.drive c.args.version c.args.entries.now, ← found, c.in_err-own.was) c.from_residual.ensures

pub returns : goal.returns
returns c =
    let found = find_from_yields_List (λ e. is_of c.args.drive c.args.version (reading_of e)) _ _ c.find.result c.find.ensures.ran (YieldsList-from_slice c.args.entries.now (cc)) (λ x b q k. search (rules, tests)) in
    rw (own_place_found c.args.drive c.args.version c.args.entries.now, ← found, c.in_ok-own.was) refl
