use Rattle.std.proofs.Common.{◌≡◌, ◌+◌, length, drop}
use Rattle.accumulators.proofs.States.{Written}
use Rattle.accumulators.proofs.sliding_extreme.SlidingExtremeAccumulator.state.Given as goal

abbrev pub invariant-loop-i : goal.invariant-loop-i
invariant-loop-i g l =
    (l.row-iterator ≡ drop l.i l.self.ring)
    × (l.i + length l.row-iterator ≡ length l.self.ring)
    × Written l.self.ring l.initial.out l.i l.out
