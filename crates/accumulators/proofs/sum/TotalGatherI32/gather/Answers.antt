use Rattle.std.proofs.Common.{rules}
use Rattle.std.proofs.lemmas.Int.{wraps}
use Rattle.accumulators.proofs.sum.TotalGatherI32.gather.Goals as goal

pub returns : goal.returns
returns c = search (rules, wraps)
