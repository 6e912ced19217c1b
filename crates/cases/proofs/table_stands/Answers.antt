-- Every row of the table holds: most by computing them, with any function that works contents out; the others by what it gives.
-- Assumes nothing.
use Rattle.std.proofs.Common.{refl}
use Rattle.cases.specs.Table.{object}
use Rattle.cases.proofs.Computing.{computing}
use Rattle.cases.proofs.Rows.{◌⨾◌}
use Rattle.cases.proofs.Working.{object_may, worked}
use Rattle.cases.proofs.Putting.{put_on_two_happens, put_on_two_reads, back_empty_happens, mending_told, mended_none_weak, two_are_too_many, one_byte_happens, one_byte_reads}
use Rattle.cases.proofs.Stopping.{at_one_happens, at_one_told, at_one_taken, at_one_reads, late_happens, late_versions, late_told, at_two_happens, at_two_told, at_two_reads}
use Rattle.cases.proofs.table_stands.Goals as goal

pub returns : goal.returns
unfolding computing
returns c =
    refl
    ⨾ refl
    ⨾ refl
    ⨾ refl
    ⨾ refl
    ⨾ refl
    ⨾ refl
    ⨾ (λ f w. worked f w 0 1 tt tt object object_may)
    ⨾ (λ f w. worked f w 0 2 tt tt object object_may)
    ⨾ (λ f w. worked f w 1 2 tt tt object object_may)
    ⨾ put_on_two_happens
    ⨾ (λ f w. refl)
    ⨾ (λ f w. (refl, refl))
    ⨾ put_on_two_reads
    ⨾ back_empty_happens
    ⨾ (λ f w. refl)
    ⨾ mending_told
    ⨾ mended_none_weak
    ⨾ (λ f w. refl)
    ⨾ (λ f w. refl)
    ⨾ two_are_too_many
    ⨾ at_one_happens
    ⨾ (λ f w. refl)
    ⨾ (λ f w. (refl, refl))
    ⨾ at_one_told
    ⨾ at_one_taken
    ⨾ at_one_reads
    ⨾ late_happens
    ⨾ late_versions
    ⨾ late_told
    ⨾ at_two_happens
    ⨾ at_two_told
    ⨾ at_two_reads
    ⨾ one_byte_happens
    ⨾ (λ f w. refl)
    ⨾ one_byte_reads
    ⨾ tt
