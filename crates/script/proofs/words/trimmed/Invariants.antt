-- What is left is as the line, but for spaces at its start.
use Rattle.std.proofs.Common.{◌≡◌, length}
use Rattle.script.specs.Words.{trimmed}
use Rattle.script.proofs.words.trimmed.Given as goal

abbrev pub invariant-loop-rest : goal.invariant-loop-rest
invariant-loop-rest l = trimmed l.rest ≡ trimmed l.line

abbrev pub decreases-loop-rest : goal.decreases-loop-rest
decreases-loop-rest l = length l.rest
