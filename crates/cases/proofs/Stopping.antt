-- The rows of the table about a stop, settling, and a version that is not to come back.
-- Assumes nothing.
use Rattle.std.proofs.Common.{◌≡◌, ℕ, List, [], ◌∷◌, ◌++◌, take, Some, None, sym, refl, ap, ◌∙◌, subst, lit≤}
use mathlib.Core.List.Memᴰ
use Rattle.pieces.specs.Rows.{piece_of}
use Rattle.slots.specs.Layout.{record_of}
use Rattle.keeper.specs.Real.{WorkOut, WorksOut}
use Rattle.keeper.specs.Object.{has, found}
use Rattle.keeper.specs.Steps.{Found, taking}
use Rattle.recovery.specs.Disk.{OnceBegun, readings_of}
use Rattle.recovery.specs.World.{World, read, settle, outcome_of}
use Rattle.recovery.specs.Events.{Event, step, Run}
use Rattle.recovery.specs.Example.{play}
use Rattle.cases.specs.Store.{site, slots_with, at_first}
use Rattle.cases.specs.Table.{happens, answer, versions, versions_in, Holds, object, other, to_all, stopped_at_one, stopped_at_two, settled, at_one_lost, late_return, onwards}
use Rattle.cases.proofs.Computing.{computing}
use Rattle.cases.proofs.Rows.{◌⨾◌}
use Rattle.cases.proofs.Working.{object_may, other_may, each_byte, two, worked}
use Rattle.cases.proofs.Runs.{Allowed, after-++, goes_on, starts, each_slot}
use Rattle.cases.proofs.Deciding.{reads, follows, found_in, settled_on, told_of_settling}

-- The world after events.
abbrev at : WorkOut → List Event → World
at f events = play (site f) events at_first

-- Settling after events, and going on from there.
settles :
    (f : WorkOut) (events : List Event) (z : Found) → play (site f) (step settle ∷ []) (at f events) ≡ settled_on (site f) (at f events) z →
    at f (settled events) ≡ settled_on (site f) (at f events) z
settles f events z e = after-++ (site f) events (step settle ∷ []) at_first ∙ e

goes_on_from : (f : WorkOut) (events more : List Event) (w : World) → at f events ≡ w → at f (events ++ more) ≡ play (site f) more w
goes_on_from f events more w e = after-++ (site f) events more at_first ∙ ap (play (site f) more) e

-- One drive has version 2: version 1 is found.
one_found : (f : WorkOut) → WorksOut 2 f → found_in (site f) (at f stopped_at_one) ≡ Some (1, object)
unfolding computing
one_found f w =
    let one : Found = Some (1, object) in
    follows (site f) (at f stopped_at_one) None (readings_of (site f) (at f stopped_at_one).disk) (one ∷ one ∷ one ∷ one ∷ [])
    (ap (λ o. taking 1 None o) (worked f w 0 1 tt tt object object_may) ⨾ refl ⨾ refl ⨾ refl ⨾ tt)

abbrev one_on : WorkOut → World
one_on f = settled_on (site f) (at f stopped_at_one) (Some (1, object))

one_settled : (f : WorkOut) → WorksOut 2 f → at f (settled stopped_at_one) ≡ one_on f
unfolding computing
one_settled f w = settles f stopped_at_one (Some (1, object)) (ap (λ z. settled_on (site f) (at f stopped_at_one) z) (one_found f w))

pub at_one_happens : Holds (happens stopped_at_one)
unfolding computing Allowed
at_one_happens f w =
    goes_on (site f) stopped_at_one at_first (starts f)
    (each_byte object object_may.bytes ⨾ tt ⨾ tt ⨾ tt ⨾ tt ⨾ each_byte other other_may.bytes ⨾ tt ⨾ tt ⨾ tt)

pub at_one_told : Holds (answer stopped_at_one settle (found 1 1025))
unfolding computing
at_one_told f w = ap (λ z. told_of_settling (site f) (at f stopped_at_one) z) (one_found f w)

pub at_one_taken : Holds (versions (settled stopped_at_one) ((0, 1) ∷ (1, 1) ∷ (2, 1) ∷ []))
unfolding computing
at_one_taken f w = ap (λ (x : World). versions_in (readings_of (site f) x.disk)) (one_settled f w)

pub at_one_reads : Holds (answer (settled stopped_at_one ++ to_all) read (has 1025 object))
unfolding computing
at_one_reads f w =
    ap (λ (x : World). (outcome_of (site f) x read).reply) (goes_on_from f (settled stopped_at_one) to_all (one_on f) (one_settled f w))
    ∙ reads (play (site f) to_all (one_on f)).state 1025 object (f (two 0 1 object)) (worked f w 0 1 tt tt object object_may)

-- Two drives have version 2: it is found.
two_found : (f : WorkOut) → WorksOut 2 f → found_in (site f) (at f stopped_at_two) ≡ Some (2, other)
unfolding computing
two_found f w =
    let one : Found = Some (1, object) in
    let new : Found = Some (2, other) in
    follows (site f) (at f stopped_at_two) None (readings_of (site f) (at f stopped_at_two).disk) (one ∷ new ∷ new ∷ new ∷ new ∷ [])
    (ap (λ o. taking 1 None o) (worked f w 0 1 tt tt object object_may)
    ⨾ ap (λ o. taking 2 one o) (worked f w 0 1 tt tt other other_may)
    ⨾ refl ⨾ refl ⨾ refl ⨾ tt)

abbrev two_on : WorkOut → World
two_on f = settled_on (site f) (at f stopped_at_two) (Some (2, other))

two_settled : (f : WorkOut) → WorksOut 2 f → at f (settled stopped_at_two) ≡ two_on f
unfolding computing
two_settled f w = settles f stopped_at_two (Some (2, other)) (ap (λ z. settled_on (site f) (at f stopped_at_two) z) (two_found f w))

pub at_two_happens : Holds (happens stopped_at_two)
unfolding computing Allowed
at_two_happens f w =
    goes_on (site f) stopped_at_two at_first (starts f)
    (each_byte object object_may.bytes ⨾ tt ⨾ tt ⨾ tt ⨾ tt ⨾ each_byte other other_may.bytes ⨾ tt ⨾ tt ⨾ tt ⨾ tt)

pub at_two_told : Holds (answer stopped_at_two settle (found 2 1025))
unfolding computing
at_two_told f w = ap (λ z. told_of_settling (site f) (at f stopped_at_two) z) (two_found f w)

pub at_two_reads : Holds (answer (settled stopped_at_two ++ to_all) read (has 1025 other))
unfolding computing
at_two_reads f w =
    ap (λ (x : World). (outcome_of (site f) x read).reply) (goes_on_from f (settled stopped_at_two) to_all (two_on f) (two_settled f w))
    ∙ reads (play (site f) to_all (two_on f)).state 1025 other (f (two 0 1 other)) (worked f w 0 1 tt tt other other_may)

-- The drive with version 2 is out while version 1 is settled on, and comes back.
lost_found : (f : WorkOut) → WorksOut 2 f → found_in (site f) (at f at_one_lost) ≡ Some (1, object)
unfolding computing
lost_found f w =
    let one : Found = Some (1, object) in
    follows (site f) (at f at_one_lost) None (readings_of (site f) (at f at_one_lost).disk) (one ∷ one ∷ [])
    (ap (λ o. taking 1 None o) (worked f w 1 2 tt tt object object_may) ⨾ refl ⨾ tt)

-- The world after that settling, and when the drive is back.
abbrev lost_on : WorkOut → World
lost_on f = settled_on (site f) (at f at_one_lost) (Some (1, object))

abbrev returned : WorkOut → World
returned f = play (site f) onwards (lost_on f)

lost_settled : (f : WorkOut) → WorksOut 2 f → settled_on (site f) (at f at_one_lost) (found_in (site f) (at f at_one_lost)) ≡ lost_on f
lost_settled f w = ap (λ z. settled_on (site f) (at f at_one_lost) z) (lost_found f w)

late_world : (f : WorkOut) → WorksOut 2 f → at f late_return ≡ returned f
unfolding computing
late_world f w = goes_on_from f (settled at_one_lost) onwards (lost_on f) (settles f at_one_lost (Some (1, object)) (lost_settled f w))

pub late_versions : Holds (versions late_return ((0, 1) ∷ (0, 2) ∷ (1, 1) ∷ (1, 1025) ∷ (2, 1) ∷ (2, 1025) ∷ []))
unfolding computing
late_versions f w = ap (λ (x : World). versions_in (readings_of (site f) x.disk)) (late_world f w)

-- What is on it is below the bar.
late_found : (f : WorkOut) → WorksOut 2 f → found_in (site f) (returned f) ≡ Some (1025, object)
unfolding computing
late_found f w =
    let new : Found = Some (1025, object) in
    follows (site f) (returned f) None (readings_of (site f) (returned f).disk) (None ∷ None ∷ None ∷ new ∷ new ∷ new ∷ [])
    (refl ⨾ refl ⨾ refl ⨾ ap (λ o. taking 1025 None o) (worked f w 1 2 tt tt object object_may) ⨾ refl ⨾ refl ⨾ tt)

pub late_told : Holds (answer late_return settle (found 1025 2049))
unfolding computing
late_told f w =
    ap (λ (x : World). (outcome_of (site f) x settle).reply) (late_world f w)
    ∙ ap (λ z. told_of_settling (site f) (returned f) z) (late_found f w)

-- The run until the settling, and with it.
lost_run : (f : WorkOut) → WorksOut 2 f → Run (site f) (lost_on f)
unfolding computing Allowed
lost_run f w =
    let begun : Allowed (site f) at_one_lost at_first =
    each_byte object object_may.bytes ⨾ tt ⨾ tt ⨾ tt ⨾ tt ⨾ each_byte other other_may.bytes ⨾ tt ⨾ lit≤ tt ⨾ tt ⨾ tt in
    subst (Run (site f)) (lost_settled f w)
    (goes_on (site f) (step settle ∷ []) (at f at_one_lost) (goes_on (site f) at_one_lost at_first (starts f) begun) (tt ⨾ tt))

-- The drive comes back with what was once written there.
was_there :
    (f : WorkOut) (k : ℕ) →
    OnceBegun ((play (site f) (take 3 onwards) (lost_on f)).disk.once 0 k)
    ((site f).format.decode 0 (slots_with (record_of 0 0 1 (piece_of 2 0 object)) (record_of 0 0 2 (piece_of 2 0 other)) k))
unfolding computing
was_there f =
    each_slot (λ k bytes. OnceBegun ((play (site f) (take 3 onwards) (lost_on f)).disk.once 0 k) ((site f).format.decode 0 bytes))
    (record_of 0 0 1 (piece_of 2 0 object)) (record_of 0 0 2 (piece_of 2 0 other)) (Memᴰ.head refl) (Memᴰ.head refl) (λ k. tt)

pub late_happens : Holds (happens late_return)
unfolding computing Allowed
late_happens f w =
    subst (Run (site f)) (sym (late_world f w))
    (goes_on (site f) onwards (lost_on f) (lost_run f w) (tt ⨾ tt ⨾ tt ⨾ (was_there f, lit≤ tt) ⨾ tt ⨾ tt))
