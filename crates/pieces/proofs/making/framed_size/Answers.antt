-- The least multiple that holds the length and the bytes is that of the rows.
use Rattle.pieces.proofs.Frame.{rows_least}
use Rattle.pieces.proofs.making.framed_size.Goals as goal

pub returns-clause-is : goal.returns-clause-is
returns-clause-is c =
    rows_least c.args.need.count c.args.length c.next_multiple_of.result c.args.need.in_range.0 c.next_multiple_of.ensures.multiple c.next_multiple_of.ensures.lower_bound c.next_multiple_of.ensures.upper_bound
