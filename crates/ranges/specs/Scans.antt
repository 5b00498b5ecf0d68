-- Searching a column from a row on. Assumes nothing.
use Rattle.std.specs.Prelude.{ℕ, ◌+◌, min, Bool, List, length, drop}
use Rattle.std.specs.List.{prefix_len}

-- the first row from s on that does not pass the test; where there is none, the number of rows
abbrev pub first_from : {X : Type 0} → (X → Bool) → ℕ → List X → ℕ
first_from passes s rows = min (length rows) (s + prefix_len passes (drop s rows))
