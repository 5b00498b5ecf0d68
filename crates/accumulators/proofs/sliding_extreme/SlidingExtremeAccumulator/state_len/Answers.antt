use Rattle.std.proofs.Common.{arith}
use Rattle.accumulators.specs.SlidingExtremesLemmas.{pairs_length}
use Rattle.accumulators.proofs.sliding_extreme.SlidingExtremeAccumulator.state_len.Goals as goal

pub returns : goal.returns
returns g c = omega (arith, c.len.ensures.rows, pairs_length c.args.self.now.ring)
