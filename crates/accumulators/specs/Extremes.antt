-- MIN and MAX by key: rows, 1 or 0, and the key or 0. Assumes nothing.
use Rattle.std.specs.Prelude.{ℕ, ◌+◌, Bool, cond, List, [], ◌∷◌, map, length, Some, None, fold, Option, nat_lt}
use Rattle.std.specs.Option.{option_map}
use Rattle.rows.specs.Rows.{non_null}
use Rattle.accumulators.specs.Sql.{ahead}
use Rattle.accumulators.specs.Figures.{Figure, most_rows, rows_held, present_held, third_held, missing_at_0}

-- the best key so far, with one more
abbrev pub better : Bool → Option ℕ → ℕ → Option ℕ
better greatest None k = Some k
better greatest (Some b) k = Some (cond (ahead greatest nat_lt k b) k b)

abbrev pub best : Bool → Option ℕ → List ℕ → Option ℕ
best greatest b ks = fold (better greatest) b ks

abbrev pub one_or_0 : Option ℕ → ℕ
one_or_0 None = 0
one_or_0 (Some k) = 1

abbrev pub key_or_0 : Option ℕ → ℕ
key_or_0 None = 0
key_or_0 (Some k) = k

abbrev pub extreme_state : ℕ → Option ℕ → List ℕ
extreme_state n b = n ∷ one_or_0 b ∷ key_or_0 b ∷ []

abbrev pub best_held : List ℕ → Option ℕ
best_held s = missing_at_0 (present_held s) (third_held s)

-- the value at the best key of a list
abbrev pub best_value : {V : Type 0} → Bool → (V → ℕ) → (ℕ → V) → List (Option V) → Option V
best_value greatest keyed valued xs = option_map valued (best greatest None (map keyed (non_null xs)))

abbrev pub extreme : {V : Type 0} → Bool → (V → ℕ) → (ℕ → V) → Figure V V
extreme greatest keyed valued = record {
  capacity = most_rows;
  answer = best_value greatest keyed valued;
  state = λ xs. extreme_state (length xs) (best greatest None (map keyed (non_null xs)));
  answered = λ s. option_map valued (best_held s);
  updated = λ s ys. extreme_state (rows_held s + length ys) (best greatest (best_held s) (map keyed (non_null ys)));
}
