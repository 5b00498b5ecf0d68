-- SUM of wholes to signed 64 bits: rows, those not missing, and the total in two's complement. Assumes nothing.
use Rattle.std.specs.Prelude.{ℕ, ◌+◌, ◌-◌, ◌%◌, ◌^◌, cond, List, [], ◌∷◌, length, ℤ, ◌+ℤ◌, ◌-ℤ◌, Option, nat_lt}
use Rattle.std.proofs.Common.{of_z, to_z}
use Rattle.std.specs.Int.{int_wrap, w64}
use Rattle.rows.specs.Rows.{non_null}
use Rattle.accumulators.specs.Sql.{null_if_none, total}
use Rattle.accumulators.specs.Figures.{Figure, most_rows, rows_held, present_held, third_held, missing_at_0}

-- the 64 bits of a total, modulo 2^64
abbrev pub bits : ℤ → ℕ
bits z = of_z w64 (int_wrap w64 z)

abbrev pub sum : Figure ℤ ℤ
sum = record {
  capacity = most_rows;
  answer = λ xs. null_if_none (non_null xs) (int_wrap w64 (total (non_null xs)));
  state = λ xs. length xs ∷ length (non_null xs) ∷ bits (total (non_null xs)) ∷ [];
  answered = λ s. missing_at_0 (present_held s) (to_z w64 (third_held s));
  updated = λ s ys. (rows_held s + length ys) ∷ ((present_held s + length (non_null ys)) % 2 ^ 64) ∷ bits (to_z w64 (third_held s) +ℤ total (non_null ys)) ∷ [];
}

abbrev pub sum_retracted : List ℕ → List (Option ℤ) → List ℕ
sum_retracted s ys = cond (nat_lt (rows_held s) (length ys)) (0 ∷ 0 ∷ 0 ∷ [])
    ((rows_held s - length ys) ∷ (present_held s - length (non_null ys)) ∷ bits (to_z w64 (third_held s) -ℤ total (non_null ys)) ∷ [])
