-- A row waits, or its frame is sure. Assumes nothing.
use Rattle.std.specs.Prelude.{◌≡◌, ℕ, ◌<◌, ◌≤◌, true, false, not, ◌&&◌, ◌⊎◌, List, length, Option, nat_le}
use Rattle.std.proofs.Common.{inl, inr, ⊎_elim}
use Rattle.std.proofs.lemmas.Bool.{and_parts, and_cases, and_left, and_right, leb-true, leb-false, lt-leb, not-true, not-false, not_from_true}
use Rattle.frames.specs.declared.frame.WindowFrameRange.{WindowFrameRange}
use Rattle.frames.specs.Rules.{Rule, waits}

abbrev pub Sure : {O : Type 0} → Rule O → List (Option O) → Option O → ℕ → WindowFrameRange → Type 0
Sure R P newest i f = (f.end < length P) ⊎ ((R.causal ≡ true) ⊎ (R.closed P newest i ≡ true))

module _ {O : Type 0} (R : Rule O) (P : List (Option O)) (newest : Option O) (i : ℕ) (f : WindowFrameRange) where
  pub sure : waits R P newest i f ≡ false → Sure R P newest i f
  sure w = ⊎_elim
      (λ e. inl (leb-false (length P) f.end e))
      (λ e. inr (⊎_elim (λ c. inl (not-false R.causal c)) (λ c. inr (not-false (R.closed P newest i) c)) (and_cases (not R.causal) (not (R.closed P newest i)) e)))
      (and_cases (nat_le (length P) f.end) (not R.causal && not (R.closed P newest i)) w)

  pub unsure : waits R P newest i f ≡ true → (length P ≤ f.end) × (R.causal ≡ false) × (R.closed P newest i ≡ false)
  unsure w =
      let p = and_parts (nat_le (length P) f.end) (not R.causal && not (R.closed P newest i)) w in
      let q = and_parts (not R.causal) (not (R.closed P newest i)) p.1 in
      (leb-true (length P) f.end p.0, not-true R.causal q.0, not-true (R.closed P newest i) q.1)

  pub at_rest : Sure R P newest i f → waits R P newest i f ≡ false
  at_rest (inl l) = and_left (nat_le (length P) f.end) (not R.causal && not (R.closed P newest i)) (lt-leb (length P) f.end l)
  at_rest (inr (inl c)) = and_right (nat_le (length P) f.end) (not R.causal && not (R.closed P newest i)) (and_left (not R.causal) (not (R.closed P newest i)) (not_from_true R.causal c))
  at_rest (inr (inr c)) = and_right (nat_le (length P) f.end) (not R.causal && not (R.closed P newest i)) (and_right (not R.causal) (not (R.closed P newest i)) (not_from_true (R.closed P newest i) c))
