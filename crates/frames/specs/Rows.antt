-- ROWS frames (docs/RULES.md, sections 5.1 and 5.3). Assumes nothing.
use Rattle.std.specs.Prelude.{ℕ, suc, ◌+◌, ◌-◌, min, Bool, true, false, not, ◌&&◌, ◌||◌, length, is_some, Option, nat_lt}
use Rattle.bounds.specs.declared.sort.SortOptions.{SortOptions}
use Rattle.bounds.specs.declared.bound.WindowFrameBound.{WindowFrameBound}
use Rattle.bounds.specs.declared.bound.WindowFrameBound.TheVariants.{UnboundedPreceding, Preceding, CurrentRow, Following, UnboundedFollowing}
use Rattle.bounds.specs.Bounds.{unbounded}
use Rattle.frames.specs.Rules.{Rule}
use Rattle.frames.specs.Standard.{rows_belongs}

-- where a bound leads to from row i, of L rows
abbrev pub rows_to : WindowFrameBound → ℕ → ℕ → ℕ
rows_to UnboundedPreceding L i = 0
rows_to (Preceding n) L i = min L (i - n)
rows_to CurrentRow L i = min L i
rows_to (Following n) L i = min L (i + n)
rows_to UnboundedFollowing L i = L

-- the frame of row i starts where its start leads to from row i, and ends before where its end leads to from the next row
abbrev pub rows_start : WindowFrameBound → ℕ → ℕ → ℕ
rows_start a L i = rows_to a L i

abbrev pub rows_end : WindowFrameBound → ℕ → ℕ → ℕ
rows_end b L i = rows_to b L (suc i)

-- an end that no later row can reach
abbrev pub rows_causal : WindowFrameBound → Bool
rows_causal UnboundedPreceding = true
rows_causal (Preceding n) = true
rows_causal CurrentRow = true
rows_causal (Following n) = not (nat_lt 0 n)
rows_causal UnboundedFollowing = false

-- To n FOLLOWING, n ≥ 1, a row waits although its frame may be complete: the row n behind it is the last.
abbrev pub rows_rule : {O : Type 0} → Option SortOptions → WindowFrameBound → WindowFrameBound → Rule O
rows_rule order start end = record {
  order = order;
  from_first = unbounded start;
  constant = unbounded start && unbounded end;
  frame = λ P i p. record { start = rows_start start (length P) i; end = rows_end end (length P) i };
  causal = rows_causal end;
  closed = λ P newest i. is_some order && rows_causal end;
  belongs = λ P i j. rows_belongs start end i j;
  earliest = rows_causal end || unbounded end;
}
