-- Where the first byte stands that passes a test: as many bytes stand before it as fail that.
use Rattle.std.proofs.Common.{◌≡◌, ℕ, Bool, not, cond, ltb, List, length, Some, None, Option, unwrap_or, refl, ⊎_elim, arith}
use Rattle.std.specs.List.{position_or_len}
use Rattle.std.proofs.lemmas.Bool.{cases_lt, lt-ltb, le-ltb}
use Rattle.std.proofs.lemmas.List.Sums.{prefix_len-le-length}

-- With the length where there is none.
pub place_or_end : (test : ℕ → Bool) (xs : List ℕ) (place : Option ℕ) →
    place ≡ cond (ltb (position_or_len test xs) (length xs)) (Some (position_or_len test xs)) None → unwrap_or place (length xs) ≡ position_or_len test xs
place_or_end test xs place e =
    let within = prefix_len-le-length (λ b. not (test b)) xs in
    ⊎_elim
    (λ low. rw e (rw (lt-ltb (position_or_len test xs) (length xs) low) refl))
    (λ high. rw e (rw (le-ltb (position_or_len test xs) (length xs) high) (omega (arith, within))))
    (cases_lt (position_or_len test xs) (length xs))
