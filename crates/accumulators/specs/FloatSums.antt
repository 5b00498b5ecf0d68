-- SUM of floats: rows, those not missing, and the key of the total. Assumes nothing.
use Rattle.std.specs.Prelude.{◌+◌, ◌%◌, ◌^◌, false, [], ◌∷◌, length, pos, Float}
use Rattle.std.specs.Float.{fin}
use Rattle.kinds.specs.Keys.{float_key, float_at}
use Rattle.rows.specs.Rows.{non_null}
use Rattle.accumulators.specs.Sql.{float_total, sql_float_sum}
use Rattle.accumulators.specs.Figures.{Figure, most_rows, rows_held, present_held, third_held, missing_at_0}

abbrev pub float_sum : Figure Float Float
float_sum = record {
  capacity = most_rows;
  answer = sql_float_sum;
  state = λ xs. length xs ∷ length (non_null xs) ∷ float_key (float_total (fin false 0 (pos 0)) (non_null xs)) ∷ [];
  answered = λ s. missing_at_0 (present_held s) (float_at (third_held s));
  updated = λ s ys. (rows_held s + length ys) ∷ ((present_held s + length (non_null ys)) % 2 ^ 64) ∷ float_key (float_total (float_at (third_held s)) (non_null ys)) ∷ [];
}
