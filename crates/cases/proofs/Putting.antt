-- The rows of the table about objects that are put, drives that come back and a byte that changes.
-- Assumes nothing.
use Rattle.std.proofs.Common.{◌≡◌, ℕ, [], ◌∷◌, ◌++◌, set, Some, ap, ◌∙◌, lit≤, le→leb}
use Rattle.pieces.specs.Rows.{piece_of}
use Rattle.slots.specs.Layout.{record_of}
use Rattle.keeper.specs.Real.{WorkOut, WorksOut}
use Rattle.keeper.specs.Object.{has, mended}
use Rattle.recovery.specs.Disk.{OnceBegun, how_many}
use Rattle.recovery.specs.World.{World, read, mend, weak}
use Rattle.recovery.specs.Events.{step, goes_out}
use Rattle.recovery.specs.Example.{play}
use Rattle.cases.specs.Store.{site, zeros, slots_with, at_first}
use Rattle.cases.specs.Table.{happens, may_not, answer, weak_drives, Holds, object, put_on_two, back_empty, put, one_byte_changed}
use Rattle.cases.proofs.Computing.{computing}
use Rattle.cases.proofs.Rows.{◌⨾◌}
use Rattle.cases.proofs.Working.{object_may, each_byte, two, worked}
use Rattle.cases.proofs.Runs.{Allowed, after-++, goes_on, starts, each_slot}
use Rattle.cases.proofs.Deciding.{reads, mended_on, told_of_mending}

pub put_on_two_happens : Holds (happens put_on_two)
unfolding computing Allowed
put_on_two_happens f w =
    goes_on (site f) put_on_two at_first (starts f) (lit≤ tt ⨾ each_byte object object_may.bytes ⨾ tt ⨾ tt ⨾ tt ⨾ tt)

pub put_on_two_reads : Holds (answer put_on_two read (has 1 object))
unfolding computing
put_on_two_reads f w =
    reads (play (site f) put_on_two at_first).state 1 object (f (two 0 1 object)) (worked f w 0 1 tt tt object object_may)

pub back_empty_happens : Holds (happens back_empty)
unfolding computing Allowed
back_empty_happens f w =
    goes_on (site f) back_empty at_first (starts f)
    (lit≤ tt ⨾ each_byte object object_may.bytes ⨾ tt ⨾ tt ⨾ tt ⨾ (λ k. tt, lit≤ tt) ⨾ tt)

pub two_are_too_many : Holds (may_not back_empty (goes_out 0))
unfolding computing
two_are_too_many f w bearable = le→leb 4 3 bearable

pub mending_told : Holds (answer back_empty (mend 2) (mended 1))
unfolding computing
mending_told f w =
    ap (λ o. told_of_mending (site f) 2 1 0 (play (site f) back_empty at_first) o) (worked f w 0 1 tt tt object object_may)

mended_world :
    (f : WorkOut) → WorksOut 2 f →
    play (site f) (back_empty ++ (step (mend 2) ∷ [])) at_first ≡ mended_on (site f) 2 1 0 (play (site f) back_empty at_first) (Some object)
unfolding computing
mended_world f w =
    after-++ (site f) back_empty (step (mend 2) ∷ []) at_first
    ∙ ap (λ o. mended_on (site f) 2 1 0 (play (site f) back_empty at_first) o) (worked f w 0 1 tt tt object object_may)

pub mended_none_weak : Holds (weak_drives (back_empty ++ (step (mend 2) ∷ [])) 0)
unfolding computing
mended_none_weak f w = ap (λ (x : World). how_many 3 (weak (site f) x.disk x.past.last)) (mended_world f w)

-- With the byte changed nothing is read there, which is what may always be.
nothing_there :
    (f : WorkOut) (k : ℕ) →
    OnceBegun ((play (site f) put at_first).disk.once 1 k)
    ((site f).format.decode 1 (slots_with (set (record_of 0 1 1 (piece_of 2 1 object)) 17 10) zeros k))
unfolding computing
nothing_there f =
    each_slot (λ k bytes. OnceBegun ((play (site f) put at_first).disk.once 1 k) ((site f).format.decode 1 bytes))
    (set (record_of 0 1 1 (piece_of 2 1 object)) 17 10) zeros tt tt (λ k. tt)

pub one_byte_happens : Holds (happens one_byte_changed)
unfolding computing Allowed
one_byte_happens f w =
    goes_on (site f) one_byte_changed at_first (starts f)
    (each_byte object object_may.bytes ⨾ tt ⨾ tt ⨾ tt ⨾ tt ⨾ (nothing_there f, lit≤ tt) ⨾ tt)

pub one_byte_reads : Holds (answer one_byte_changed read (has 1 object))
unfolding computing
one_byte_reads f w =
    reads (play (site f) one_byte_changed at_first).state 1 object (f (two 0 2 object)) (worked f w 0 2 tt tt object object_may)
