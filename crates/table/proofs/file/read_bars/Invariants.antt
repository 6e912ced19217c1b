use Rattle.std.proofs.Common.{◌≡◌, vec_items, vec_len}
use Rattle.table.specs.File.{bars_in}
use Rattle.table.proofs.file.read_bars.Given as goal

abbrev pub invariant-loop-word : goal.invariant-loop-word
invariant-loop-word l = (vec_items l.bars ≡ bars_in l.word-index l.fn.bytes) × (vec_len l.bars ≡ l.word-index)
