-- What the tests and the chain found, in the words of the definitions.
use Rattle.std.proofs.Common.{◌≡◌, ℕ, ◌+◌, ◌-◌, ◌*◌, ◌≤◌, false, List, length, take, drop, ap, ◌∙◌, subst, arith, rules}
use borrow.Author.Tests.{tests}
use Rattle.std.specs.List.{AllByRecursion}
use Rattle.std.proofs.ByRecursion.{all_from_every}
use Rattle.std.proofs.lemmas.Iterator.{YieldsList-from_slice, cases_from_any}
use Rattle.std.proofs.lemmas.List.{take_rest}
use Rattle.std.proofs.lemmas.Result.{err_from_is_err_and}
use Rattle.pieces.specs.Given.{IsZero, Long, length_in}
use Rattle.pieces.specs.Rows.{rows_for, MAX}
use Rattle.pieces.proofs.rows.Rows.read.Goals as goal

long_is : (need n size : ℕ) (flat : List ℕ) → n ≡ length_in flat → n ≤ MAX → size ≡ rows_for need n * need → length flat ≡ size → Long need flat
long_is need n size flat e h is l = (omega arith, l ∙ is ∙ ap (λ k. rows_for need k * need) e)

rest_is : (n : ℕ) (flat : List ℕ) → n ≡ length_in flat → take (length flat - (4 + n)) (drop (4 + n) flat) ≡ drop (4 + length_in flat) flat
rest_is n flat e = take_rest flat (4 + n) ∙ ap (λ k. drop (4 + k) flat) e

pub returns-in_err-from_slice : goal.returns-in_err-from_slice
returns-in_err-from_slice c =
    let e = c.length_in-length.ensures in
    let flat : List ℕ = c.as_slice-flat.result.now in
    let used : ℕ = 4 + c.length_in-length.result in
    let rest : List ℕ = take (length flat - used) (drop used flat) in
    let zeros = cases_from_any _ _ false (λ b. b ≡ 0 → ⊥) IsZero c.if-any.ensures.ran (YieldsList-from_slice rest cc)
    (λ x q k. search (rules, tests)) (λ x q k. search (rules, tests)) in
    let p = err_from_is_err_and c.from_residual.result c.from_residual.ensures.1 in
    rw (p.1, p.2, ← c.as_slice-flat.ensures.value) (
      long_is c.args.self.now.need.count c.length_in-length.result c.framed_size.result flat e (omega arith) c.framed_size.ensures.is c.if-flat-framed_size.false,
      subst (AllByRecursion IsZero) (rest_is c.length_in-length.result flat e) (all_from_every IsZero rest zeros),
    )

pub returns : goal.returns
returns c =
    let e = c.length_in-length.ensures in
    let flat : List ℕ = c.as_slice-flat.result.now in
    let used : ℕ = 4 + c.length_in-length.result in
    let rest : List ℕ = take (length flat - used) (drop used flat) in
    let zeros = cases_from_any _ _ false (λ b. b ≡ 0 → ⊥) IsZero c.if-any.ensures.ran (YieldsList-from_slice rest cc)
    (λ x q k. search (rules, tests)) (λ x q k. search (rules, tests)) in
    rw (← c.as_slice-flat.ensures.value) record {
      long = long_is c.args.self.now.need.count c.length_in-length.result c.framed_size.result flat e (omega arith) c.framed_size.ensures.is c.if-flat-framed_size.false;
      filled = subst (AllByRecursion IsZero) (rest_is c.length_in-length.result flat e) (all_from_every IsZero rest zeros);
      object_is = c.in_ok-from_slice.ensures.items ∙ ap (λ k. take k (drop 4 flat)) (omega arith);
    }
