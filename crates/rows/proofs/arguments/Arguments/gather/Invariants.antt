use Rattle.std.proofs.Common.{drop}
use Rattle.rows.specs.Rows.{kept}
use Rattle.rows.proofs.Gathers.{SoFar}
use Rattle.rows.proofs.arguments.Arguments.gather.Given as goal

abbrev pub invariant-loop-i : goal.invariant-loop-i
invariant-loop-i g l = SoFar g.G.Gather.gathered (kept l.self) l.initial.figure (kept (drop l.i l.self)) l.rows l.present l.figure
