-- The ring below the sliding extremes, and how its rows are written. Assumes nothing.
use Rattle.std.specs.Prelude.{ℕ, zero, suc, ◌%◌, List, [], ◌∷◌, None, Option, slice_index_or, slice_set}
use Rattle.accumulators.specs.Figures.{most_kept}
use Rattle.accumulators.specs.Extremes.{one_or_0, key_or_0}

-- n rows from place p on
abbrev pub ring_rows : List (Option ℕ) → ℕ → ℕ → List (Option ℕ)
ring_rows ring p zero = []
ring_rows ring p (suc n) = slice_index_or ring (p % most_kept) None ∷ ring_rows ring (suc p) n

-- one row's pair, written to two places
abbrev pub put_pair : List ℕ → ℕ → Option ℕ → List ℕ
put_pair out place k = slice_set (slice_set out place (one_or_0 k)) (suc place) (key_or_0 k)
