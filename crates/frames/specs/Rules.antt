-- What a frame rule is (docs/RULES.md, section 5). Assumes nothing.
use Rattle.std.specs.Prelude.{ℕ, zero, suc, Bool, not, ◌&&◌, ◌||◌, List, [], ◌∷◌, length, Option, nat_le, nat_lt}
use Rattle.bounds.specs.declared.sort.SortOptions.{SortOptions}
use Rattle.frames.specs.declared.frame.WindowFrameRange.{WindowFrameRange}

-- A partition P is the list of its rows' order values; rows have none where no order values come.
pub record Rule (O : Type 0) : Type 0 where
  pub order : Option SortOptions
  -- whether every start is UNBOUNDED, and whether every frame has all rows
  pub from_first : Bool
  pub constant : Bool
  -- the frame of a row after that of the row before it
  pub frame : List (Option O) → ℕ → WindowFrameRange → WindowFrameRange
  -- whether no frame reaches behind its row
  pub causal : Bool
  -- whether a frame's end stands, with this most recent row or none
  pub closed : List (Option O) → Option O → ℕ → Bool
  -- whether row j belongs to the frame of row i, as the SQL standard has it
  pub belongs : List (Option O) → ℕ → ℕ → Bool
  -- whether no frame could be taken for complete any earlier
  pub earliest : Bool

module _ {O : Type 0} (R : Rule O) where
  -- what row i sets out from: the frame of the row before it, after those of the rows before that one; at first [0, 0)
  abbrev pub previous : List (Option O) → ℕ → WindowFrameRange
  previous P zero = record { start = 0; end = 0 }
  previous P (suc i) = R.frame P i (previous P i)

  abbrev pub frame_of : List (Option O) → ℕ → WindowFrameRange
  frame_of P i = R.frame P i (previous P i)

  -- a row with the frame f waits for rows to come: f ends at the row count, and is neither causal nor closed
  abbrev pub waits : List (Option O) → Option O → ℕ → WindowFrameRange → Bool
  waits P newest i f = nat_le (length P) f.end && (not R.causal && not (R.closed P newest i))

abbrev pub inside : WindowFrameRange → ℕ → Bool
inside f j = nat_le f.start j && nat_lt j f.end

-- a plain expression never lets a row go, so that its frames start at the first row, or have all rows
abbrev pub plain_reasons : {O : Type 0} → Rule O → List (Bool × ℕ)
plain_reasons R = (not (R.from_first || R.constant), 6) ∷ []
