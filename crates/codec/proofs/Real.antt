-- The theorem of the whole at the function that tries every content, and what the code lays in a slot.
use Rattle.std.proofs.Common.{◌≡◌, ℕ, ◌+◌, true, List, ◌++◌, length, drop, sym, ap, ◌∙◌, arith}
use Rattle.std.proofs.lemmas.List.{length-append}
use Rattle.std.proofs.lemmas.Bool.{cond-true}
use Rattle.slots.specs.Adler.{adler}
use Rattle.slots.specs.Layout.{around, header_of, body_of, bytes_of, record_of}
use Rattle.slots.specs.Slot.{has_room, written}
use Rattle.recovery.specs.Promise.{Onward}
use Rattle.recovery.specs.Real.{real_site, slots_of, Real}
use Rattle.codec.specs.Stands.{RealPromise}
use Rattle.codec.specs.WorkOut.{work_out_of, SomeWorksOut}

-- A record is as much longer than its piece as stands around it.
length_record : (o d v : ℕ) (p : List ℕ) → length (record_of o d v p) ≡ around + length p
unfolding record_of
length_record o d v p =
    omega (arith, length-append (body_of o d v p) (bytes_of 4 (adler (body_of o d v p))), length-append (header_of o d v (length p)) p)

written_laid : (o d v : ℕ) (p old : List ℕ) → has_room old p ≡ true → written o d v p old ≡ (slots_of o).lay (record_of o d v p) old
unfolding written
written_laid o d v p old room = cond-true (has_room old p) _ _ room ∙ ap (λ n. record_of o d v p ++ drop n old) (sym (length_record o d v p))

pub real_promise : SomeWorksOut → Real → Onward → RealPromise
real_promise works real onward =
    record {
      laws = λ n need o k. real.laws n need o (work_out_of need) k (works need k.some);
      objects = λ n need k. real.safety n need (work_out_of need) k (works need k.some);
      sequel = λ n need o f k w. onward (real_site n need o f) (real.laws n need o f k w);
      laid = written_laid;
    }
