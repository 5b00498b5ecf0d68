use Rattle.std.proofs.Common.{◌≡◌, None}
use Rattle.rows.specs.Rows.{non_null}
use Rattle.accumulators.specs.Extremes.{best}
use Rattle.accumulators.proofs.sliding_extreme.best.Given as goal

abbrev pub invariant-loop-row : goal.invariant-loop-row
invariant-loop-row g l =
    best g.D.Direction.greatest l.best (non_null l.row-iterator) ≡ best g.D.Direction.greatest None (non_null l.ring)
