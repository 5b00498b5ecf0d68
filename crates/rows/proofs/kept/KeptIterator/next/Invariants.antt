use Rattle.std.proofs.Common.{◌≡◌, ◌-◌, length, drop}
use Rattle.rows.specs.Rows.{kept}
use Rattle.rows.proofs.kept.KeptIterator.next.Given as goal

abbrev pub invariant-loop-i : goal.invariant-loop-i
invariant-loop-i g l =
    let was = l.initial.self-inside in
    (l.self-inside.left.end ≡ length l.self-inside.rows.now)
    × (l.self-inside.rows.now ≡ was.rows.now)
    × (kept (drop l.self-inside.left.start l.self-inside.rows.now) ≡ kept (drop was.left.start was.rows.now))

abbrev pub decreases-loop-i : goal.decreases-loop-i
decreases-loop-i g l = l.self-inside.left.end - l.self-inside.left.start
