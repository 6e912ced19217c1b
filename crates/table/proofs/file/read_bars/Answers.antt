use Rattle.std.proofs.Common.{◌≡◌, ◌+◌, ◌*◌, ◌/◌, ◌-◌, [], ◌∷◌, ◌++◌, get_or, length, take, drop, sym, ap, ◌∙◌, arith, rules}
use Rattle.std.proofs.lemmas.List.{drop-drop, length-drop, take_all}
use Rattle.std.specs.Simd.{first_chunks}
use Rattle.slots.specs.Layout.{number_at}
use Rattle.slots.proofs.Numbers.{eight_at}
use Rattle.table.specs.File.{bars_in}
use Rattle.table.proofs.Filing.{bars_none, bars_more, chunk_at}
use Rattle.table.proofs.file.read_bars.Goals as goal

pub loop-word-init : goal.loop-word-init
loop-word-init c = (c.in_ok-bars.ensures.items ∙ sym (bars_none c.args.bytes.now), c.in_ok-bars.ensures.len)

pub loop-word-preserved : goal.loop-word-preserved
loop-word-preserved c =
    let bytes = c.args.bytes.now in
    let k = c.loop-word.word-index in
    let rest : take (length bytes - 8) (drop 8 bytes) ≡ drop 8 bytes = take_all (length bytes - 8) (drop 8 bytes) (omega (arith, length-drop 8 bytes)) in
    let many : length (drop 8 bytes) / 8 ≡ 256 = omega (arith, length-drop 8 bytes) in
    let chunks : c.as_chunks.result.0.now ≡ first_chunks 8 256 (drop 8 bytes) = c.as_chunks.ensures.front ∙ ap (λ s. first_chunks 8 (length s / 8) s) rest ∙ ap (λ n. first_chunks 8 n (drop 8 bytes)) many in
    let same : get_or c.as_chunks.result.0.now k [] ≡ take 8 (drop (8 + k * 8) bytes) =
    ap (λ l. get_or l k []) chunks ∙ chunk_at 256 k (drop 8 bytes) [] (omega (arith, c.loop-word-test.true, c.as_chunks.ensures.front_len, length-drop 8 bytes)) ∙ ap (take 8) (drop-drop (k * 8) 8 bytes) in
    let word : c.from_be_bytes.result ≡ number_at bytes (8 + k * 8) 8 = eight_at bytes _ (8 + k * 8) c.from_be_bytes.result same c.from_be_bytes.ensures in (
      c.in_ok-push.ensures.items ∙ ap (λ l. l ++ (c.from_be_bytes.result ∷ [])) c.loop-word.invariant.0 ∙ ap (λ w. bars_in k bytes ++ (w ∷ [])) word ∙ sym (bars_more k bytes),
      search rules,
    )

pub returns : goal.returns
returns c =
    let end : c.loop-word.word-index ≡ 256 = omega (arith, c.as_chunks.ensures.front_len, length-drop 8 c.args.bytes.now) in
    (c.loop-word.invariant.0 ∙ ap (λ n. bars_in n c.args.bytes.now) end, c.loop-word.invariant.1 ∙ end)
