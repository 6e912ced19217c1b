-- What `find` says of the rows is what is to be found.
use Rattle.std.proofs.Common.{◌≡◌, ℕ, ◌<◌, ◌≤◌, List, Option, Some, None, rules}
use Rattle.std.specs.Option.{MatchOption}
use borrow.Author.Tests.{tests}
use Rattle.std.proofs.lemmas.Iterator.{first_from_Range}
use Rattle.elimination.specs.Matrix.{cell, Found}
use Rattle.elimination.proofs.matrix.Matrix.pivot.Goals as goal

found : (k w q : ℕ) (m : List ℕ) (r : Option ℕ)
    → MatchOption r ((i : ℕ) → q ≤ i → i < k → cell w m i q ≡ 0) (λ p. (q ≤ p) × (p < k) × (1 ≤ cell w m p q) × ((i : ℕ) → q ≤ i → i < p → cell w m i q ≡ 0))
    → Found k w q m r
found k w q m None h = h
found k w q m (Some p) h = h

pub returns : goal.returns
returns c =
    let w : ℕ = c.args.self.now.width in
    let m : List ℕ = c.args.self.now.cells.items in
    found c.args.self.now.rows w c.args.q m c.find.result
    (first_from_Range _ _ _ c.find.result (λ i. 1 ≤ cell w m i c.args.q) (λ i. cell w m i c.args.q ≡ 0) c.find.ensures.ran
    (λ x p k. search (rules, tests)) (λ x p k. search (rules, tests)))
