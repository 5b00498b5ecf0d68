-- The frames of a column, one after the other, whatever the rule. Assumes nothing.
use Rattle.std.proofs.Common.{ℕ, zero, suc, ◌≤◌, List, length, Option, arith}
use Rattle.frames.specs.declared.frame.WindowFrameRange.{WindowFrameRange}
use Rattle.frames.specs.Rules.{Rule, previous}

module _ {O : Type 0} (R : Rule O) (P : List (Option O)) where
  pub previous_made : ((i : ℕ) (p : WindowFrameRange) → p.start ≤ p.end → (R.frame P i p).start ≤ (R.frame P i p).end) → (i : ℕ) → (previous R P i).start ≤ (previous R P i).end
  previous_made made zero = omega arith
  previous_made made (suc i) = made i (previous R P i) (previous_made made i)

  pub previous_within : ((i : ℕ) (p : WindowFrameRange) → (R.frame P i p).end ≤ length P) → (i : ℕ) → (previous R P i).end ≤ length P
  previous_within within zero = omega arith
  previous_within within (suc i) = within i (previous R P i)
