-- The laws of slots.
use Rattle.std.proofs.Common.{◌≡◌, ℕ, ◌+◌, ◌-◌, ◌<◌, ◌≤◌, List, [], ◌∷◌, ◌++◌, length, get_or, take, drop, replicate, sym, refl, ap, ◌∙◌, arith}
use Rattle.std.proofs.lemmas.List.{append_assoc, take_at, take-take, drop-take, length-append, length-take, length-take-le, length-drop, length-replicate, get_or-take, get_or_append_left, get_or-replicate}
use Rattle.slots.specs.Adler.{adler}
use Rattle.slots.specs.Layout.{around, bytes_of, number_at, header_of, body_of, record_of}
use Rattle.slots.specs.Slot.{Slot, empty, holds, read_slot, version_in, length_in, sum_in, cleared}
use Rattle.slots.specs.Laws.{ReadsWritten, ClearedReadsEmpty, ReadsPrefix, ReadsOwn, Slots}
use Rattle.slots.proofs.Adding.{adler_lt}
use Rattle.slots.proofs.Numbers.{number_at_whole, number_at_take}
use Rattle.slots.proofs.Reading.{misfit, fit, fits_from}
use Rattle.slots.proofs.Clearing.{cleared_none, cleared_held}

-- A record's parts are where they are looked for.
pub reads_written : ReadsWritten
unfolding record_of
reads_written o d v p rest small room =
    let head = header_of o d v (length p) in
    let body = body_of o d v p in
    let sum = bytes_of 4 (adler body) in
    let bytes = (body ++ sum) ++ rest in
    let behind = (p ++ sum) ++ rest in
    let version : version_in bytes ≡ v = number_at_whole 8 v 3 (87 ∷ o ∷ d ∷ []) (bytes_of 4 (length p) ++ behind) refl (omega arith) in
    let len : length_in bytes ≡ length p = number_at_whole 4 (length p) 11 (87 ∷ o ∷ d ∷ bytes_of 8 v) behind refl (omega arith) in
    let long : length body ≡ 15 + length p = length-append head p in
    let split : bytes ≡ body ++ (sum ++ rest) = append_assoc body sum rest in
    let total : length bytes ≡ (15 + length p) + (4 + length rest) = ap length split ∙ length-append body (sum ++ rest) ∙ ap (λ n. n + length (sum ++ rest)) long ∙ ap (λ n. (15 + length p) + n) (length-append sum rest) in
    let front : take (15 + length p) bytes ≡ body = ap (take (15 + length p)) split ∙ take_at body (sum ++ rest) (15 + length p) long in
    let named : number_at bytes (15 + length p) 4 ≡ adler body =
    ap (λ l. number_at l (15 + length p) 4) split ∙ number_at_whole 4 (adler body) (15 + length p) body rest long (adler_lt body) in
    let whole : around + length_in bytes ≤ length bytes = omega arith in
    let piece : take (length_in bytes) (drop 15 bytes) ≡ p =
    ap (λ n. take n behind) len ∙ ap (take (length p)) (append_assoc p sum rest) ∙ take_at p (sum ++ rest) (length p) refl in
    sym (fit o d bytes (record {
      whole = whole;
      room = omega arith;
      kind = refl;
      object = refl;
      drive = refl;
      sum = ap (λ n. number_at bytes (15 + n) 4) len ∙ named ∙ sym (ap adler (ap (λ n. take (15 + n) bytes) len ∙ front));
    }))
    ∙ ap (λ x. holds x (take (length_in bytes) (drop 15 bytes))) version ∙ ap (holds v) piece

-- Zeros don't begin with 87.
cleared_by : (o d : ℕ) (bytes : List ℕ) (r : Slot) → read_slot o d bytes ≡ r → read_slot o d (cleared o d bytes) ≡ empty
cleared_by o d bytes empty e = ap (read_slot o d) (sym (cleared_none o d bytes (sym e))) ∙ e
cleared_by o d bytes (holds v p) e =
    let zeros : List ℕ = replicate (around + length p) 0 in
    let some : 0 < length zeros = omega (arith, length-replicate {A = ℕ} (around + length p) 0) in
    let first : get_or (cleared o d bytes) 0 0 ≡ 0 =
    ap (λ l. get_or l 0 0) (sym (cleared_held o d v p bytes (sym e))) ∙ get_or_append_left zeros (drop (around + length p) bytes) 0 0 some ∙ get_or-replicate (around + length p) 0 0 0 (omega arith) in
    sym (misfit o d (cleared o d bytes) (λ h. let k = h.kind in omega arith))

pub cleared_reads_empty : ClearedReadsEmpty
cleared_reads_empty o d bytes = cleared_by o d bytes (read_slot o d bytes) refl

-- All that is looked at stands in the record.
pub reads_prefix : ReadsPrefix
reads_prefix o d v n p bytes e enough =
    let f = fits_from o d v p bytes e in
    let h = f.0 in
    let w = h.whole in
    let long : length p ≡ length_in bytes = ap length f.2 ∙ length-take-le (length_in bytes) (drop 15 bytes) (omega (arith, length-drop 15 bytes)) in
    let front = take n bytes in
    let len : length_in front ≡ length_in bytes = number_at_take 4 n 11 bytes (omega arith) in
    let version : version_in front ≡ version_in bytes = number_at_take 8 n 3 bytes (omega arith) in
    let sum : number_at front (15 + length_in bytes) 4 ≡ sum_in bytes = number_at_take 4 n (15 + length_in bytes) bytes (omega arith) in
    let body : take (15 + length_in bytes) front ≡ take (15 + length_in bytes) bytes = take-take (15 + length_in bytes) n bytes (omega arith) in
    let whole : around + length_in front ≤ length front = omega (arith, length-take n bytes) in
    let more : n ≡ 15 + (n - 15) = omega arith in
    let piece : take (length_in bytes) (drop 15 front) ≡ take (length_in bytes) (drop 15 bytes) =
    ap (λ i. take (length_in bytes) (drop 15 (take i bytes))) more ∙ ap (take (length_in bytes)) (drop-take 15 (n - 15) bytes)
    ∙ take-take (length_in bytes) (n - 15) (drop 15 bytes) (omega arith) in
    sym (fit o d front (record {
      whole = whole;
      room = omega (arith, h.room);
      kind = get_or-take n bytes 0 0 (omega arith) ∙ h.kind;
      object = get_or-take n bytes 1 0 (omega arith) ∙ h.object;
      drive = get_or-take n bytes 2 0 (omega arith) ∙ h.drive;
      sum = ap (λ m. number_at front (15 + m) 4) len ∙ sum ∙ h.sum ∙ sym (ap adler (ap (λ m. take (15 + m) front) len ∙ body));
    }))
    ∙ ap (λ x. holds x (take (length_in front) (drop 15 front))) (version ∙ sym f.1) ∙ ap (λ m. holds v (take m (drop 15 front))) len ∙ ap (holds v) (piece ∙ sym f.2)

pub reads_own : ReadsOwn
reads_own o d o' d' v v' p p' bytes e e' =
    let f = (fits_from o d v p bytes e).0 in
    let g = (fits_from o' d' v' p' bytes e').0 in
    (sym f.object ∙ g.object, sym f.drive ∙ g.drive)

pub slots : Slots
slots = record { written = reads_written; cleared = cleared_reads_empty; prefix = reads_prefix; own = reads_own }
