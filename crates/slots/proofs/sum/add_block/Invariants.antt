use Rattle.std.proofs.Common.{◌≡◌, ℕ, ◌+◌, ◌*◌, ◌%◌, ◌≤◌, List, ◌++◌, drop}
use Rattle.slots.specs.Adler.{sums}
use Rattle.slots.proofs.sum.add_block.Given as goal

-- Neither sum outgrows 32 bits, and what is left of the block leads from them to where the whole block leads.
abbrev pub invariant-loop-x : goal.invariant-loop-x
invariant-loop-x l =
    (l.a ≤ 65520 + 255 * l.x-index) × (l.b ≤ 65520 + 587760 * l.x-index) ×
    ((rest : List ℕ) → sums l.first l.second (l.block ++ rest) ≡ sums (l.a % 65521) (l.b % 65521) (drop l.x-index l.block ++ rest))
