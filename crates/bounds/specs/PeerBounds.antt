-- Bounds that count nothing (docs/RULES.md, sections 5.1 and 5.2). Assumes nothing.
use Rattle.bounds.specs.declared.bound.WindowFrameBound.{WindowFrameBound}
use Rattle.bounds.specs.declared.bound.WindowFrameBound.TheVariants as bound
use Rattle.bounds.specs.declared.peer_bound.PeerBound.{PeerBound}
use Rattle.bounds.specs.declared.peer_bound.PeerBound.TheVariants.{UnboundedPreceding, CurrentRow, UnboundedFollowing}

-- the bound that it is among all bounds
abbrev pub as_bound : PeerBound → WindowFrameBound
as_bound UnboundedPreceding = bound.UnboundedPreceding
as_bound CurrentRow = bound.CurrentRow
as_bound UnboundedFollowing = bound.UnboundedFollowing
