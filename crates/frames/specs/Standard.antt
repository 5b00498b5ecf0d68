-- Which rows belong to a frame, as ISO/IEC 9075-2:2003 has it (7.11, window clause): begin with all rows of the partition, take away
-- those that the start bound excludes, then those that the end bound excludes. No word here of a search or of another row's frame.
-- Assumes nothing.
use Rattle.std.specs.Prelude.{ℕ, ◌+◌, Bool, true, false, cond, not, ◌&&◌, List, ℤ, ◌+ℤ◌, ◌-ℤ◌, Some, None, Option, nat_lt}
use Rattle.bounds.specs.declared.sort.SortOptions.{SortOptions}
use Rattle.bounds.specs.declared.bound.WindowFrameBound.{WindowFrameBound}
use Rattle.bounds.specs.declared.bound.WindowFrameBound.TheVariants.{UnboundedPreceding, Preceding, CurrentRow, Following, UnboundedFollowing}
use Rattle.bounds.specs.Bounds.{offset}
use Rattle.bounds.specs.Orders.{at, place, precedes}

-- ---- ROWS: by position
-- the start excludes the rows more than n before row i, those before it, or those before the n-th behind it
abbrev pub rows_start_excludes : WindowFrameBound → ℕ → ℕ → Bool
rows_start_excludes UnboundedPreceding i j = false
rows_start_excludes (Preceding n) i j = nat_lt (j + n) i
rows_start_excludes CurrentRow i j = nat_lt j i
rows_start_excludes (Following n) i j = nat_lt j (i + n)
rows_start_excludes UnboundedFollowing i j = true

-- the end excludes the rows behind the n-th before row i, those behind it, or those more than n behind it
abbrev pub rows_end_excludes : WindowFrameBound → ℕ → ℕ → Bool
rows_end_excludes UnboundedPreceding i j = true
rows_end_excludes (Preceding n) i j = nat_lt i (j + n)
rows_end_excludes CurrentRow i j = nat_lt i j
rows_end_excludes (Following n) i j = nat_lt (i + n) j
rows_end_excludes UnboundedFollowing i j = false

abbrev pub rows_belongs : WindowFrameBound → WindowFrameBound → ℕ → ℕ → Bool
rows_belongs start end i j = not (rows_start_excludes start i j) && not (rows_end_excludes end i j)

-- ---- RANGE: by order value
-- a place moved along the order, exactly: it may leave the kind
abbrev pub moved : Option SortOptions → Option ℤ → Option ℤ → Option ℤ
moved None by z = None
moved (Some s) None z = None
moved (Some s) (Some by) None = None
moved (Some s) (Some by) (Some z) = Some (cond s.descending (z -ℤ by) (z +ℤ by))

module _ {O : Type 0} (keyed : O → ℕ) (base : ℕ) (order : Option SortOptions) where
  -- the place that a bound leads to from a row: none where it is UNBOUNDED, or where there is no order
  abbrev pub target : WindowFrameBound → Option O → Option ℤ
  target bound v = moved order (offset bound) (place keyed base v)

  -- the start excludes the rows that sort before its target: at CURRENT ROW, those before the row that are not its peers
  abbrev pub start_excludes : WindowFrameBound → Option O → Option O → Bool
  start_excludes start here v = precedes order (place keyed base v) (target start here)

  -- the end excludes the rows that sort behind its target
  abbrev pub end_excludes : WindowFrameBound → Option O → Option O → Bool
  end_excludes end here v = precedes order (target end here) (place keyed base v)

  abbrev pub range_belongs : WindowFrameBound → WindowFrameBound → List (Option O) → ℕ → ℕ → Bool
  range_belongs start end P i j = not (start_excludes start (at P i) (at P j)) && not (end_excludes end (at P i) (at P j))
