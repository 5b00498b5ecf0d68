-- A loop over a batch: what is counted and gathered so far, and what is left. Assumes nothing.
use Rattle.std.proofs.Common.{◌≡◌, ℕ, ◌+◌, List, length, fold, Option}
use Rattle.rows.specs.Rows.{non_null}

module _ {V S : Type 0} (f : S → V → S) (all : List (Option V)) (start : S) where
  abbrev pub SoFar : List (Option V) → ℕ → ℕ → S → Type 0
  SoFar left rows present s =
      (rows + length left ≡ length all)
      × (present + length (non_null left) ≡ length (non_null all))
      × (fold f s (non_null left) ≡ fold f start (non_null all))
