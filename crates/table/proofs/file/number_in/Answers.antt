use Rattle.std.proofs.Common.{◌≡◌, ◌-◌, length, take, drop, sym, ap, ◌∙◌, arith}
use Rattle.std.proofs.lemmas.List.{length-drop, take_all}
use Rattle.slots.specs.Adler.{adler}
use Rattle.slots.specs.Layout.{number_at}
use Rattle.slots.proofs.Numbers.{four_at, eight_at}
use Rattle.table.proofs.Filing.{is_file_true, is_file_not}
use Rattle.table.proofs.file.number_in.Goals as goal

pub returns-then-from_be_bytes-adler : goal.returns-then-from_be_bytes-adler
returns-then-from_be_bytes-adler c =
    let bytes = c.args.bytes.now in
    let parts = c.in_ok-summed.ensures.cases in
    let from : length bytes - 4 ≡ 2056 = omega (arith, c.if-bytes-ne-FILE.false) in
    let sum : c.from_be_bytes.result ≡ number_at bytes 2056 4 = four_at bytes _ 2056 c.from_be_bytes.result (parts.1 ∙ ap (λ n. drop n bytes) from ∙ sym (take_all 4 (drop 2056 bytes) (omega (arith, length-drop 2056 bytes, c.if-bytes-ne-FILE.false)))) c.from_be_bytes.ensures in
    let page : c.adler.result ≡ adler (take 2056 bytes) = c.adler.ensures ∙ ap adler (parts.0 ∙ ap (λ n. take n bytes) from) in
    is_file_not bytes (λ e. c.if-from_be_bytes-adler.true (sum ∙ e ∙ sym page))

pub returns : goal.returns
returns c =
    let bytes = c.args.bytes.now in
    let parts = c.in_ok-summed.ensures.cases in
    let first = c.in_ok-first_chunk.ensures.cases in
    let from : length bytes - 4 ≡ 2056 = omega (arith, c.if-bytes-ne-FILE.false) in
    let sum : c.from_be_bytes.result ≡ number_at bytes 2056 4 = four_at bytes _ 2056 c.from_be_bytes.result (parts.1 ∙ ap (λ n. drop n bytes) from ∙ sym (take_all 4 (drop 2056 bytes) (omega (arith, length-drop 2056 bytes, c.if-bytes-ne-FILE.false)))) c.from_be_bytes.ensures in
    let page : c.adler.result ≡ adler (take 2056 bytes) = c.adler.ensures ∙ ap adler (parts.0 ∙ ap (λ n. take n bytes) from) in
    let number : c.from_be_bytes-2.result ≡ number_at c.args.bytes.now 0 8 = eight_at c.args.bytes.now _ 0 c.from_be_bytes-2.result first.same c.from_be_bytes-2.ensures in
    let long : length bytes ≡ 2060 = omega (arith, c.if-bytes-ne-FILE.false) in
    (is_file_true bytes long (sym sum ∙ c.if-from_be_bytes-adler.false ∙ page), long, number)
