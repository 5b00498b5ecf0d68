-- The frames of a partition that is still open, row by row. Assumes nothing.
use Rattle.std.specs.Prelude.{◌≡◌, ℕ, zero, suc, ◌<◌, ◌≤◌, true, false, cond, List, [], ◌∷◌, ◌++◌, length, Option}
use Rattle.frames.specs.declared.frame.RowFrame.{RowFrame}
use Rattle.frames.specs.declared.frame.RowFrame.TheVariants.{Complete, Waiting}
use Rattle.bounds.specs.Orders.{InOrder}
use Rattle.frames.specs.Rules.{Rule, previous, frame_of, waits, inside}
use Rattle.frames.specs.Laws.{MayFollow, WouldGrow}

module _ {O : Type 0} (R : Rule O) (P : List (Option O)) (newest : Option O) where
  abbrev pub row_frame : ℕ → RowFrame
  row_frame i = cond (waits R P newest i (frame_of R P i)) (Waiting (frame_of R P i)) (Complete (frame_of R P i))

  -- of the first n rows
  abbrev pub row_frames : ℕ → List RowFrame
  row_frames zero = []
  row_frames (suc n) = row_frames n ++ row_frame n ∷ []

-- what the frame of row i is worth
pub record Told {O : Type 0} (keyed : O → ℕ) (R : Rule O) (P : List (Option O)) (newest : Option O) (i : ℕ) : Type 0 where
  pub made : (frame_of R P i).start ≤ (frame_of R P i).end
  pub within : (frame_of R P i).end ≤ length P
  pub start_rises : (previous R P i).start ≤ (frame_of R P i).start
  pub end_rises : (previous R P i).end ≤ (frame_of R P i).end
  -- it has the rows that the standard gives it
  pub standard : InOrder keyed R.order P → (j : ℕ) → j < length P → inside (frame_of R P i) j ≡ R.belongs P i j
  -- where it is complete, every longer partition has the same
  pub complete : waits R P newest i (frame_of R P i) ≡ false → (rest : List (Option O)) → MayFollow keyed R P newest rest → frame_of R (P ++ rest) i ≡ frame_of R P i
  -- where it is not, some row that may come belongs to it
  pub incomplete : R.earliest ≡ true → InOrder keyed R.order P → waits R P newest i (frame_of R P i) ≡ true → WouldGrow keyed R P newest i
