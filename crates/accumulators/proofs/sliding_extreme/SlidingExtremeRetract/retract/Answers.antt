use Rattle.rows.specs.Rows.{kept}
use Rattle.accumulators.proofs.States.{dropped}
use Rattle.accumulators.proofs.sliding_extreme.SlidingExtremeRetract.retract.Goals as goal

pub returns : goal.returns
returns g c = dropped c.args.self.now.ring (c.drop_oldest.new.self) _ (kept c.args.rows.now) c.drop_oldest.ensures c.gather.ensures.rows
