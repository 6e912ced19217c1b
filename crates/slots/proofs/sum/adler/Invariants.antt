use Rattle.std.proofs.Common.{◌≡◌, ◌<◌}
use Rattle.slots.specs.Adler.{sums}
use Rattle.slots.proofs.sum.adler.Given as goal

-- What is left leads from the two sums to the sum of all.
abbrev pub invariant-loop-block : goal.invariant-loop-block
invariant-loop-block l = record {
  first_small : l.first < 65521;
  second_small : l.second < 65521;
  size : l.block-iterator.size ≡ 2048;
  onward : sums 1 0 l.bytes ≡ sums l.first l.second l.block-iterator.rest.now;
}
