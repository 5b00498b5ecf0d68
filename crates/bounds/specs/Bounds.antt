-- Bounds of a frame (docs/RULES.md, sections 5.1 and 5.5). Assumes nothing.
use Rattle.std.specs.Prelude.{ℕ, ◌^◌, ◌<ℤ◌, Bool, true, false, ℤ, pos, neg_ℤ, Some, None, Option, int_lt, nat_lt}
use Rattle.bounds.specs.declared.bound.WindowFrameBound.{WindowFrameBound}
use Rattle.bounds.specs.declared.bound.WindowFrameBound.TheVariants.{UnboundedPreceding, Preceding, CurrentRow, Following, UnboundedFollowing}

-- the same bound where the rows come in reverse
abbrev pub mirrored : WindowFrameBound → WindowFrameBound
mirrored UnboundedPreceding = UnboundedFollowing
mirrored (Preceding n) = Following n
mirrored CurrentRow = CurrentRow
mirrored (Following n) = Preceding n
mirrored UnboundedFollowing = UnboundedPreceding

abbrev pub unbounded : WindowFrameBound → Bool
unbounded UnboundedPreceding = true
unbounded (Preceding n) = false
unbounded CurrentRow = false
unbounded (Following n) = false
unbounded UnboundedFollowing = true

-- less than 2^64 from 0, as the offset of every bound is, and every place
abbrev pub IsNear : ℤ → Type 0
IsNear z = (neg_ℤ (pos (2 ^ 64)) <ℤ z) × (z <ℤ pos (2 ^ 64))

-- n FOLLOWING lies n behind the row, CURRENT ROW at it, and n PRECEDING n before it
abbrev pub offset : WindowFrameBound → Option ℤ
offset UnboundedPreceding = None
offset (Preceding n) = Some (neg_ℤ (pos n))
offset CurrentRow = Some (pos 0)
offset (Following n) = Some (pos n)
offset UnboundedFollowing = None

-- a frame from the one bound to the other would run backwards
abbrev pub runs_back : Option ℤ → Option ℤ → Bool
runs_back None to = false
runs_back (Some from) None = false
runs_back (Some from) (Some to) = int_lt to from

abbrev pub behind : WindowFrameBound → WindowFrameBound → Bool
behind start end = runs_back (offset start) (offset end)

-- n PRECEDING and n FOLLOWING
abbrev pub distant : WindowFrameBound → Bool
distant UnboundedPreceding = false
distant (Preceding n) = true
distant CurrentRow = false
distant (Following n) = true
distant UnboundedFollowing = false

-- the bound's number is over the limit
abbrev pub beyond : ℕ → WindowFrameBound → Bool
beyond limit UnboundedPreceding = false
beyond limit (Preceding n) = nat_lt limit n
beyond limit CurrentRow = false
beyond limit (Following n) = nat_lt limit n
beyond limit UnboundedFollowing = false

abbrev pub is_unbounded_preceding : WindowFrameBound → Bool
is_unbounded_preceding UnboundedPreceding = true
is_unbounded_preceding (Preceding n) = false
is_unbounded_preceding CurrentRow = false
is_unbounded_preceding (Following n) = false
is_unbounded_preceding UnboundedFollowing = false

abbrev pub is_unbounded_following : WindowFrameBound → Bool
is_unbounded_following UnboundedPreceding = false
is_unbounded_following (Preceding n) = false
is_unbounded_following CurrentRow = false
is_unbounded_following (Following n) = false
is_unbounded_following UnboundedFollowing = true
