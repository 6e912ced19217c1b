use Rattle.std.proofs.Common.{sym, ◌∙◌}
use Rattle.keeper.specs.Shown.{readings_of}
use Rattle.keeper.proofs.Scan.{free_found, free_again, free_none}
use Rattle.keeper.proofs.readings.free_place.Goals as goal

pub loop-place-preserved : goal.loop-place-preserved
loop-place-preserved c =
    sym (free_again c.args.drive (readings_of c.args.entries.now) c.loop-place.place 4 c.loop-place-test.true (sym c.is_taken.ensures ∙ c.if-not-is_taken.false))
    ∙ c.loop-place.invariant

pub returns-then-not-is_taken : goal.returns-then-not-is_taken
returns-then-not-is_taken c =
    sym (free_found c.args.drive (readings_of c.args.entries.now) c.loop-place.place 4 c.loop-place-test.true (sym c.is_taken.ensures ∙ c.if-not-is_taken.true))
    ∙ c.loop-place.invariant

pub returns : goal.returns
returns c =
    sym (free_none c.args.drive (readings_of c.args.entries.now) c.loop-place.place 4 c.loop-place-test.false) ∙ c.loop-place.invariant
