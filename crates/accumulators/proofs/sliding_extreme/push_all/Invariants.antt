use Rattle.std.proofs.Common.{◌≡◌, ◌+◌, ◌≤◌, ◌++◌, map, length}
use Rattle.std.specs.Option.{option_map}
use Rattle.rows.specs.Rows.{kept}
use Rattle.accumulators.specs.Figures.{most_kept}
use Rattle.accumulators.proofs.sliding_extreme.push_all.Given as goal

abbrev pub invariant-loop-argument : goal.invariant-loop-argument
invariant-loop-argument g l =
    (l.ring ++ map (option_map g.V.Ordered.keyed) l.argument-iterator ≡ l.initial.ring ++ map (option_map g.V.Ordered.keyed) (kept l.rows))
    × (length l.ring + length l.argument-iterator ≤ most_kept)
