-- The frames of a partition and of every longer one, from the laws of a rule alone. Assumes nothing.
use Rattle.std.proofs.Common.{◌≡◌, ℕ, zero, suc, ◌<◌, ◌≤◌, List, ◌++◌, length, Option, refl, ap, ◌∙◌, inl, inr, arith}
use Rattle.frames.specs.Rules.{Rule, previous, frame_of}
use Rattle.frames.specs.Laws.{Lawful, MayFollow}
use Rattle.frames.specs.Partitions.{Told}
use Rattle.frames.specs.OrderLists.{in_order_front}
use Rattle.frames.proofs.Previous.{previous_made, previous_within}
use Rattle.frames.specs.Waiting.{Sure, sure, at_rest}

module _ {O : Type 0} (keyed : O → ℕ) (R : Rule O) (laws : Lawful keyed R) where
  module _ (P : List (Option O)) where
    pub before_made : (i : ℕ) → (previous R P i).start ≤ (previous R P i).end
    before_made = previous_made R P (laws.made P)

    pub before_within : (i : ℕ) → (previous R P i).end ≤ length P
    before_within = previous_within R P (laws.within P)

  module _ (P rest : List (Option O)) (newest : Option O) (follow : MayFollow keyed R P newest rest) where
    -- the rows before one that is sure are sure
    sure_before : (i : ℕ) → suc i < length P → Sure R P newest (suc i) (frame_of R P (suc i)) → Sure R P newest i (frame_of R P i)
    sure_before i h (inl l) = inl (omega (arith, l, laws.end_rises P (suc i)))
    sure_before i h (inr (inl c)) = inr (inl c)
    sure_before i h (inr (inr c)) = inr (inr (laws.closed_before P newest i h (in_order_front keyed R.order P rest follow.0) c))

    same_frame : (i : ℕ) → i < length P → Sure R P newest i (frame_of R P i) → frame_of R (P ++ rest) i ≡ frame_of R P i
    same_frame i h s = go i h s ∙ laws.complete P rest newest i (previous R P i) h (before_made P i) (before_within P i) follow (at_rest R P newest i (frame_of R P i) s)
      where
        go : (i : ℕ) → i < length P → Sure R P newest i (frame_of R P i) → frame_of R (P ++ rest) i ≡ R.frame (P ++ rest) i (previous R P i)
        go zero h s = refl
        go (suc i) h s =
            let t = sure_before i h s in
            ap (λ p. R.frame (P ++ rest) (suc i) p) (go i (omega arith) t ∙ laws.complete P rest newest i (previous R P i) (omega arith) (before_made P i) (before_within P i) follow (at_rest R P newest i (frame_of R P i) t))

  pub told : (P : List (Option O)) (newest : Option O) (i : ℕ) → i < length P → Told keyed R P newest i
  told P newest i h = record {
    made = laws.made P i (previous R P i) (before_made P i);
    within = laws.within P i (previous R P i);
    start_rises = laws.start_rises P i;
    end_rises = laws.end_rises P i;
    standard = λ r j k. laws.standard P i j h k r;
    complete = λ w rest f. same_frame P rest newest f i h (sure R P newest i (frame_of R P i) w);
    incomplete = λ e r w. laws.waits_rightly e P newest i h r w;
  }
