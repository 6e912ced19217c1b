use Rattle.std.proofs.Common.{◌≤◌, length, vec_items, sym, ap, ◌∙◌, arith, length-drop, rules}
use Rattle.std.specs.Result.{result_ok}
use Rattle.std.proofs.lemmas.List.{take_rest}
use Rattle.script.proofs.Steps.{pair_step}
use Rattle.script.proofs.digits.unhex.Goals as goal

pub loop-left-preserved : goal.loop-left-preserved
loop-left-preserved c =
    let s = c.loop-left.left.now in
    let two : 2 ≤ length s = search rules in
    let rest = take_rest s 2 in
    let long = ap length rest ∙ length-drop 2 s in
    let step = pair_step (vec_items c.loop-left.bytes) c.in_ok-byte.byte s two (sym c.pair.ensures ∙ c.ok_or.ensures.ok_part ∙ ap result_ok c.in_ok-byte.was) in
    (cc, omega arith)
