use Rattle.std.proofs.Common.{◌<◌, rules, arith}
use Rattle.std.proofs.ByRecursion.{All-from_get_or}
use Rattle.script.proofs.Steps.{library_hex, reads_back}
use Rattle.script.proofs.digits.hex.Goals as goal

-- No call is named here, so that an edit that turns it is refused for what it writes.
pub returns-clause-written : goal.returns-clause-written
returns-clause-written c =
    let bytes = c.args.bytes.now in
    let fits = All-from_get_or (λ b. b < 256) bytes 0 (λ i h. let f = c.type_inv.bytes i in omega arith) in
    let same = library_hex bytes fits in search rules

pub returns-clause-read_back : goal.returns-clause-read_back
returns-clause-read_back c =
    let bytes = c.args.bytes.now in
    let fits = All-from_get_or (λ b. b < 256) bytes 0 (λ i h. let f = c.type_inv.bytes i in omega arith) in
    let same = library_hex bytes fits in
    let back = reads_back bytes fits in search rules
