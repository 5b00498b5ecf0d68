-- RANGE frames (docs/RULES.md, sections 5.2 and 5.3). Assumes nothing.
use Rattle.std.specs.Prelude.{◌≡◌, ℕ, Bool, true, false, cond, not, ◌&&◌, ◌||◌, List, is_some, Option, nat_lt}
use Rattle.bounds.specs.declared.sort.SortOptions.{SortOptions}
use Rattle.bounds.specs.declared.bound.WindowFrameBound.{WindowFrameBound}
use Rattle.bounds.specs.declared.bound.WindowFrameBound.TheVariants.{UnboundedPreceding, Preceding, CurrentRow, Following, UnboundedFollowing}
use Rattle.bounds.specs.Bounds.{unbounded, behind, distant, is_unbounded_following, is_unbounded_preceding}
use Rattle.bounds.specs.Orders.{at, row_ahead}
use Rattle.frames.specs.Rules.{Rule}
use Rattle.ranges.specs.Scans.{first_from}
use Rattle.frames.specs.Standard.{start_excludes, end_excludes, range_belongs}
use Rattle.frames.specs.Mirrors.{Shape}

-- two bounds that make a frame
pub record WellMade (f : Shape) : Type 0 where
  pub started : is_unbounded_following f.start ≡ false
  pub ended : is_unbounded_preceding f.end ≡ false
  pub forward : behind f.start f.end ≡ false
  pub measured : (distant f.start || distant f.end) && not (is_some f.order) ≡ false

-- an end that lies before its row
abbrev pub range_causal : WindowFrameBound → Bool
range_causal UnboundedPreceding = false
range_causal (Preceding d) = nat_lt 0 d
range_causal CurrentRow = false
range_causal (Following d) = false
range_causal UnboundedFollowing = false

-- a bound that takes in every row: UNBOUNDED, or CURRENT ROW without order values
abbrev pub all_rows : Option SortOptions → WindowFrameBound → Bool
all_rows order UnboundedPreceding = true
all_rows order (Preceding d) = false
all_rows order CurrentRow = not (is_some order)
all_rows order (Following d) = false
all_rows order UnboundedFollowing = true

module _ {O : Type 0} (keyed : O → ℕ) (base : ℕ) (order : Option SortOptions) where
  abbrev pub range_closed : WindowFrameBound → List (Option O) → Option O → ℕ → Bool
  range_closed UnboundedPreceding P newest i = false
  range_closed (Preceding d) P newest i = cond (nat_lt 0 d) (is_some order) (row_ahead keyed order P newest)
  range_closed CurrentRow P newest i = row_ahead keyed order P newest
  range_closed (Following d) P newest i = end_excludes keyed base order (Following d) (at P i) newest
  range_closed UnboundedFollowing P newest i = false

  -- The start is the first row, from the previous start on, that the start bound does not exclude; the end the first, from the previous
  -- end on, that the end bound excludes.
  abbrev pub range_rule : WindowFrameBound → WindowFrameBound → Rule O
  range_rule start end = record {
    order = order;
    from_first = unbounded start;
    constant = all_rows order start && all_rows order end;
    frame = λ P i p. record {
      start = cond (unbounded start) 0 (first_from (start_excludes keyed base order start (at P i)) p.start P);
      end = first_from (λ v. not (end_excludes keyed base order end (at P i) v)) p.end P;
    };
    causal = range_causal end;
    closed = range_closed end;
    belongs = range_belongs keyed base order start end;
    earliest = true;
  }

-- whether a bound of a frame removes a row with the value v, seen from a row with the value here
module _ {O : Type 0} (keyed : O → ℕ) (base : ℕ) (f : Shape) where
  abbrev pub removes_before : Option O → Option O → Bool
  removes_before here v = start_excludes keyed base f.order f.start here v

  abbrev pub removes_behind : Option O → Option O → Bool
  removes_behind here v = end_excludes keyed base f.order f.end here v

  abbrev pub rule_of : Rule O
  rule_of = range_rule keyed base f.order f.start f.end
