use Rattle.std.proofs.Common.{◌<◌, ◌≤◌, length, take, vec_items, ap, ◌∙◌, arith}
use Rattle.keeper.specs.Readings.{pieces_of}
use Rattle.keeper.specs.Shown.{readings_of}
use Rattle.keeper.proofs.Bridge.{chosen_many, chosen_first, content_few, content_worked, content_none}
use Rattle.keeper.proofs.codec.Codec.content.Goals as goal

pub returns-then-len-need : goal.returns-then-len-need
returns-then-len-need c =
    let many = chosen_many (vec_items c.in_ok-chosen.chosen) _ c.in_ok-chosen.ensures in
    let few : length (pieces_of c.args.version (readings_of c.args.entries.now)) < c.args.self.need = omega (arith, many, c.len.ensures, c.in_ok-chosen.chosen.ok.0) in
    record { content = λ o f u right un. content_few c.args.self.need c.args.version (readings_of c.args.entries.now) o f u un few }

pub returns-in-Ok : goal.returns-in-Ok
returns-in-Ok c =
    let rs = readings_of c.args.entries.now in
    let many = chosen_many (vec_items c.in_ok-chosen.chosen) _ c.in_ok-chosen.ensures in
    let enough : c.args.self.need ≤ length (pieces_of c.args.version rs) = omega (arith, many, c.len.ensures, c.in_ok-chosen.chosen.ok.0) in
    let same = chosen_first c.args.self.need (vec_items c.in_ok-chosen.chosen) c.as_slice.result.now _ c.in_ok-chosen.ensures (c.as_slice.ensures.value ∙ c.truncate.ensures.items ∙ ap (λ n. take n (vec_items c.in_ok-chosen.chosen)) c.from-need.ensures) in
    record {
      content = λ o f u right un. content_worked c.args.self.need c.args.version rs c.as_slice.result.now same (c.args.self.some, c.args.self.few) o f u right un (vec_items c.in-Ok.bytes) enough c.in-Ok.ensures.told;
    }

pub returns : goal.returns
returns c =
    let rs = readings_of c.args.entries.now in
    let many = chosen_many (vec_items c.in_ok-chosen.chosen) _ c.in_ok-chosen.ensures in
    let enough : c.args.self.need ≤ length (pieces_of c.args.version rs) = omega (arith, many, c.len.ensures, c.in_ok-chosen.chosen.ok.0) in
    let same = chosen_first c.args.self.need (vec_items c.in_ok-chosen.chosen) c.as_slice.result.now _ c.in_ok-chosen.ensures (c.as_slice.ensures.value ∙ c.truncate.ensures.items ∙ ap (λ n. take n (vec_items c.in_ok-chosen.chosen)) c.from-need.ensures) in
    record {
      content = λ o f u right un. content_none c.args.self.need c.args.version rs c.as_slice.result.now same (c.args.self.some, c.args.self.few) o f u right un enough (λ content worked. c.in_default.not-NoMemory (c.in-Err.ensures.found content worked));
    }
