-- What the chains found, said of the drives and of the parts.
use Rattle.std.proofs.Common.{◌≡◌, ℕ, ◌<◌, ◌≤◌, true, false, List, length, get_or, vec_len, vec_items, sym, ap, ◌∙◌, arith, rules}
use borrow.Author.Tests.{tests}
use Rattle.std.specs.List.{AllByRecursion, AllWithin, HoldsAt}
use Rattle.std.proofs.lemmas.Iterator.{YieldsList-from_slice, cases_from_any}
use Rattle.pieces.specs.Given.{IsDrive, parts, width}
use Rattle.pieces.specs.declared.working.Piece.{Piece}
use Rattle.pieces.proofs.Joining.{width_first}
use Rattle.pieces.proofs.Loops.{all_parts, not_all_parts}
use Rattle.pieces.proofs.examining.examine.Goals as goal

-- Lengths that the code reads, and a width that it found, are those of the parts.
uneven : (ps : List Piece) (n : ℕ) → n ≡ width (parts ps) → (k : ℕ) → k < length ps → HoldsAt (λ p. vec_len p.bytes ≡ n → ⊥) ps k
    → AllByRecursion (λ p. length p ≡ width (parts ps)) (parts ps) → ⊥
uneven ps n w k h other =
    not_all_parts (λ p. vec_items p.bytes) (λ p. length p ≡ width (parts ps)) ps k h (λ d e. other d ((get_or ps k d).bytes.ok.0 ∙ e ∙ sym w))

even : (ps : List Piece) (n : ℕ) → n ≡ width (parts ps) → AllWithin (λ p. vec_len p.bytes ≡ n) ps 0 (length ps) → AllByRecursion (λ p. length p ≡ width (parts ps)) (parts ps)
even ps n w all = all_parts (λ p. vec_items p.bytes) (λ p. length p ≡ width (parts ps)) ps (λ k d low high. sym (get_or ps k d).bytes.ok.0 ∙ all k d low high ∙ w)

pub returns-then-any : goal.returns-then-any
returns-then-any c =
    let ps : List Piece = c.args.pieces.now in
    let past = cases_from_any _ _ true (λ p. 31 < p.drive) (λ p. p.drive ≤ 31) c.if-any.ensures.ran (YieldsList-from_slice ps cc)
    (λ x q k. search (rules, tests)) (λ x q k. search (rules, tests)) in
    (((omega arith, omega arith), omega arith), not_all_parts (λ p. p.drive) IsDrive ps past.0 past.1 (λ d h. let y = past.2 d in omega arith))

pub returns-then-any-2 : goal.returns-then-any-2
returns-then-any-2 c =
    let ps : List Piece = c.args.pieces.now in
    let n : ℕ = c.len-width.result in
    let w = width_first ps c.index-pieces-0.result n (omega arith) c.index-pieces-0.is
    (c.len-width.ensures ∙ ap (λ p. vec_len p.bytes) (sym c.index-pieces-0.is) ∙ c.index-pieces-0.result.bytes.ok.0) in
    let within = cases_from_any _ _ false (λ p. 31 < p.drive) (λ p. p.drive ≤ 31) c.if-any.ensures.ran (YieldsList-from_slice ps cc)
    (λ x q k. search (rules, tests)) (λ x q k. search (rules, tests)) in
    let other = cases_from_any _ _ true (λ p. vec_len p.bytes ≡ n → ⊥) (λ p. vec_len p.bytes ≡ n) c.if-any-2.ensures.ran (YieldsList-from_slice ps cc)
    (λ x q k. search (rules, tests)) (λ x q k. search (rules, tests)) in (
      (((omega arith, omega arith), omega arith), all_parts (λ p. p.drive) IsDrive ps within),
      uneven ps n w other.0 other.1 other.2,
    )

pub returns : goal.returns
returns c =
    let ps : List Piece = c.args.pieces.now in
    let n : ℕ = c.len-width.result in
    let w = width_first ps c.index-pieces-0.result n (omega arith) c.index-pieces-0.is
    (c.len-width.ensures ∙ ap (λ p. vec_len p.bytes) (sym c.index-pieces-0.is) ∙ c.index-pieces-0.result.bytes.ok.0) in
    let within = cases_from_any _ _ false (λ p. 31 < p.drive) (λ p. p.drive ≤ 31) c.if-any.ensures.ran (YieldsList-from_slice ps cc)
    (λ x q k. search (rules, tests)) (λ x q k. search (rules, tests)) in
    let level = cases_from_any _ _ false (λ p. vec_len p.bytes ≡ n → ⊥) (λ p. vec_len p.bytes ≡ n) c.if-any-2.ensures.ran (YieldsList-from_slice ps cc)
    (λ x q k. search (rules, tests)) (λ x q k. search (rules, tests)) in (
      (((omega arith, omega arith), omega arith), all_parts (λ p. p.drive) IsDrive ps within),
      even ps n w level,
    )
