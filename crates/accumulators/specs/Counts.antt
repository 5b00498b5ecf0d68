-- COUNT: rows, and those not missing. Assumes nothing.
use Rattle.std.specs.Prelude.{ℕ, ◌+◌, ◌-◌, ◌%◌, ◌^◌, cond, List, [], ◌∷◌, length, Some, Option, nat_lt}
use Rattle.rows.specs.Rows.{non_null}
use Rattle.accumulators.specs.Sql.{sql_count}
use Rattle.accumulators.specs.Figures.{Figure, most_rows, rows_held, present_held}

abbrev pub count : (V : Type 0) → Figure V ℕ
count V = record {
  capacity = most_rows;
  answer = sql_count;
  state = λ xs. length xs ∷ length (non_null xs) ∷ [];
  answered = λ s. Some (present_held s);
  updated = λ s ys. (rows_held s + length ys) ∷ ((present_held s + length (non_null ys)) % 2 ^ 64) ∷ [];
}

-- non-missing stops at 0
abbrev pub count_retracted : {V : Type 0} → List ℕ → List (Option V) → List ℕ
count_retracted s ys = cond (nat_lt (rows_held s) (length ys)) (0 ∷ 0 ∷ []) ((rows_held s - length ys) ∷ (present_held s - length (non_null ys)) ∷ [])
