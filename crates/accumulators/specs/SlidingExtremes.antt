-- MIN and MAX over rows that are kept: rows, then presence and key of each, oldest first. Assumes nothing.
use Rattle.std.specs.Prelude.{ℕ, zero, suc, ◌+◌, ◌-◌, ◌*◌, Bool, cond, List, [], ◌∷◌, ◌++◌, map, length, drop, None, Option, nat_lt}
use Rattle.std.specs.Option.{option_map}
use Rattle.accumulators.specs.Figures.{Figure, most_kept, rows_held}
use Rattle.accumulators.specs.Extremes.{best, best_value, one_or_0, key_or_0}

-- presence and key of each row
abbrev pub pairs : List (Option ℕ) → List ℕ
pairs [] = []
pairs (k ∷ ks) = one_or_0 k ∷ key_or_0 k ∷ pairs ks

-- the keys of the rows that are present
abbrev pub keys_in : List ℕ → List ℕ
keys_in [] = []
keys_in (p ∷ []) = []
keys_in (zero ∷ k ∷ ns) = keys_in ns
keys_in (suc p ∷ k ∷ ns) = k ∷ keys_in ns

abbrev pub sliding_extreme : {V : Type 0} → Bool → (V → ℕ) → (ℕ → V) → Figure V V
sliding_extreme greatest keyed valued = record {
  capacity = most_kept;
  answer = best_value greatest keyed valued;
  state = λ xs. length xs ∷ pairs (map (option_map keyed) xs);
  answered = λ s. option_map valued (best greatest None (keys_in (drop 1 s)));
  updated = λ s ys. (rows_held s + length ys) ∷ (drop 1 s ++ pairs (map (option_map keyed) ys));
}

-- as many of the oldest rows go
abbrev pub oldest_dropped : {V : Type 0} → List ℕ → List (Option V) → List ℕ
oldest_dropped s ys = cond (nat_lt (rows_held s) (length ys)) (0 ∷ []) ((rows_held s - length ys) ∷ drop (2 * length ys) (drop 1 s))
