-- What a frame rule owes (docs/RULES.md, section 5.4). Assumes nothing.
use Rattle.std.specs.Prelude.{◌≡◌, ℕ, suc, ◌<◌, ◌≤◌, true, false, List, [], ◌∷◌, ◌++◌, length, Option}
use Rattle.frames.specs.declared.frame.WindowFrameRange.{WindowFrameRange}
use Rattle.bounds.specs.Orders.{InOrder, NoneBefore}
use Rattle.frames.specs.Rules.{Rule, previous, frame_of, waits, inside}

module _ {O : Type 0} (keyed : O → ℕ) (R : Rule O) where
  -- these rows may come behind P: all together are in order, and none sorts before the most recent row that was shown
  abbrev pub MayFollow : List (Option O) → Option O → List (Option O) → Type 0
  MayFollow P newest rest = InOrder keyed R.order (P ++ rest) × NoneBefore keyed R.order newest rest

  -- some row that may come would be taken into the frame of row i, which now has all rows up to the last
  abbrev pub WouldGrow : List (Option O) → Option O → ℕ → Type 0
  WouldGrow P newest i = (v : Option O) × (MayFollow P newest (v ∷ []) × ((frame_of R (P ++ v ∷ []) i).end ≡ suc (length P)))

  pub record Lawful : Type 0 where
    -- over any rows
    pub made : (P : List (Option O)) (i : ℕ) (p : WindowFrameRange) → p.start ≤ p.end → (R.frame P i p).start ≤ (R.frame P i p).end
    pub within : (P : List (Option O)) (i : ℕ) (p : WindowFrameRange) → (R.frame P i p).end ≤ length P
    pub start_rises : (P : List (Option O)) (i : ℕ) → (previous R P i).start ≤ (frame_of R P i).start
    pub end_rises : (P : List (Option O)) (i : ℕ) → (previous R P i).end ≤ (frame_of R P i).end
    pub starts_first : R.from_first ≡ true → (P : List (Option O)) (i : ℕ) (p : WindowFrameRange) → (R.frame P i p).start ≡ 0
    pub end_alone : (P : List (Option O)) (i : ℕ) (p q : WindowFrameRange) → p.end ≡ q.end → (R.frame P i p).end ≡ (R.frame P i q).end
    pub whole : R.constant ≡ true → (P : List (Option O)) (newest : Option O) (i : ℕ) → i < length P
        → (frame_of R P i ≡ record { start = 0; end = length P }) × (R.causal ≡ false) × (R.closed P newest i ≡ false)
    -- over rows in order: a frame has the rows that the standard gives it
    pub standard : (P : List (Option O)) (i j : ℕ) → i < length P → j < length P → InOrder keyed R.order P → inside (frame_of R P i) j ≡ R.belongs P i j
    -- rows to come do not alter the frame of a row that does not wait
    pub complete : (P rest : List (Option O)) (newest : Option O) (i : ℕ) (p : WindowFrameRange) → i < length P → p.start ≤ p.end → p.end ≤ length P
        → MayFollow P newest rest → waits R P newest i (R.frame P i p) ≡ false → R.frame (P ++ rest) i p ≡ R.frame P i p
    -- where a row is closed, the rows before it are
    pub closed_before : (P : List (Option O)) (newest : Option O) (i : ℕ) → suc i < length P → InOrder keyed R.order P
        → R.closed P newest (suc i) ≡ true → R.closed P newest i ≡ true
    -- where no frame could be taken for complete any earlier, a row that waits does so with reason
    pub waits_rightly : R.earliest ≡ true → (P : List (Option O)) (newest : Option O) (i : ℕ) → i < length P → InOrder keyed R.order P
        → waits R P newest i (frame_of R P i) ≡ true → WouldGrow P newest i
