use Rattle.std.proofs.Common.{◌≡◌, ◌++◌, drop, vec_items}
use Rattle.table.specs.File.{spelled, page_of}
use Rattle.table.proofs.file.page.Given as goal

-- What was written so far, and then what is left to write.
abbrev pub invariant-loop-bar : goal.invariant-loop-bar
invariant-loop-bar l = vec_items l.bytes ++ spelled (drop l.bar-index l.bars) ≡ page_of l.number l.bars
