use Rattle.std.proofs.Common.{◌≡◌, take}
use Rattle.frames.specs.Columns.{column}
use Rattle.frames.specs.Rules.{previous}
use Rattle.frames.specs.Partitions.{row_frames}
use Rattle.frames.proofs.partition.frames.Given as goal

abbrev pub invariant-loop-row : goal.invariant-loop-row
invariant-loop-row g l =
    let R = g.R.FrameRule.rule l.rule in
    let P = column l.order in
    record { last : l.last ≡ previous R P l.row; written : take l.row l.place-items ≡ row_frames R P l.newest l.row }
