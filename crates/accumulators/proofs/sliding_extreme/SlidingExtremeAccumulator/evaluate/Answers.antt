use Rattle.std.proofs.Common.{rules}
use Rattle.accumulators.specs.SlidingExtremesLemmas.{keys_back}
use Rattle.accumulators.proofs.sliding_extreme.SlidingExtremeAccumulator.evaluate.Goals as goal

pub returns-in_err-best : goal.returns-in_err-best
returns-in_err-best g c = rw (keys_back c.args.self.now.ring) (search rules)

pub returns : goal.returns
returns g c = rw (keys_back c.args.self.now.ring) (search rules)
