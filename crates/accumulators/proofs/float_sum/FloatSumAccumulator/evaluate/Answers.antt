use Rattle.std.proofs.Common.{rules}
use Rattle.kinds.specs.FloatKeys.{float_back}
use Rattle.accumulators.proofs.float_sum.FloatSumAccumulator.evaluate.Goals as goal

pub returns : goal.returns
returns c = let a = c.args.self.now in rw (float_back a.total a.fits) (search rules)
