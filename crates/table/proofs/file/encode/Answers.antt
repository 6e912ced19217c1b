use Rattle.std.proofs.Common.{refl, ap, ◌∙◌}
use Rattle.std.proofs.lemmas.Slice.{pushed}
use Rattle.slots.proofs.Numbers.{bytes4}
use Rattle.slots.specs.Adler.{adler}
use Rattle.table.proofs.Filing.{file_made}
use Rattle.table.proofs.file.encode.Goals as goal

pub returns : goal.returns
returns c =
    file_made c.args.number c.args.bars.now _ c.to_be_bytes.result _ c.adler-sum.result c.in_ok-bytes.ensures
    (c.adler-sum.ensures ∙ ap adler c.as_slice.ensures.value) (c.to_be_bytes.ensures ∙ bytes4 c.adler-sum.result)
    (pushed c.to_be_bytes.result refl c.in_ok-extend_from_slice.was c.extend_from_slice.ensures.items)
