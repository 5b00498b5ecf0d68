use Rattle.std.proofs.Common.{arith}
use Rattle.rows.proofs.RowLists.{kept_few}
use Rattle.rows.proofs.arguments.Arguments.iter.Goals as goal

pub returns-clause-fits : goal.returns-clause-fits
returns-clause-fits g c = omega (arith, kept_few c.args.self.now, c.len.ensures)
