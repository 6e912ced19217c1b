use Rattle.std.proofs.Common.{rules}
use Rattle.table.proofs.table.Keeper.sweep.Goals as goal

pub returns-clause-step : goal.returns-clause-step
returns-clause-step c = let given = c.sweep.ensures c.args.self.now.need in search rules
