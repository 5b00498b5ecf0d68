-- Whole groups, whatever the accumulator: from its laws alone. Assumes nothing.
use Rattle.std.proofs.Common.{◌≡◌, ℕ, ◌+◌, ◌<◌, ◌≤◌, List, [], ◌∷◌, ◌++◌, length, fold, Option, sym, ap, ◌∙◌, subst, append_assoc, append-nil, arith, length-append}
use Rattle.accumulators.specs.Figures.{Figure, Lawful, Retracting, rows_held}
use Rattle.accumulators.specs.Calls.{AnyCut, joined}
use Rattle.accumulators.specs.declared.refusals.Full.{Full}

module _ {V Answer : Type 0} (F : Figure V Answer) (Stands : List ℕ → List (Option V) → Type 0) (laws : Lawful F Stands) where
  -- batch after batch, the numbers stand for all rows so far
  taken : (s : List ℕ) (xs : List (Option V)) (bs : List (List (Option V))) → Stands s xs → length xs + length (joined bs) ≤ F.capacity → Stands (fold F.updated s bs) (xs ++ joined bs)
  taken s xs [] st h = subst (Stands s) (sym (append-nil xs)) st
  taken s xs (b ∷ bs) st h =
      let l = length-append b (joined bs) in
      let m = length-append xs b in
      subst (Stands (fold F.updated (F.updated s b) bs)) (append_assoc xs b (joined bs))
      (taken (F.updated s b) (xs ++ b) bs (laws.grows s xs b st (omega arith)) (omega arith))

  pub any_cut : AnyCut F
  any_cut bs h = laws.answers (fold F.updated (F.state []) bs) (joined bs) (taken (F.state []) [] bs laws.starts (omega arith))

  -- one batch on a new accumulator
  module _ (s : List ℕ) (xs : List (Option V)) (new : s ≡ F.state []) where
    empty : rows_held s ≡ 0
    empty = ap rows_held new ∙ laws.holds (F.state []) [] laws.starts

    pub whole : rows_held s + length xs ≤ F.capacity → (length xs ≤ F.capacity) × (F.answered (F.updated s xs) ≡ F.answer xs)
    whole h =
        let e = empty in (
          omega arith,
          ap (λ z. F.answered (F.updated z xs)) new ∙ laws.answers (F.updated (F.state []) xs) xs (laws.grows (F.state []) [] xs laws.starts (omega arith)),
        )

    pub too_many : (e : Full) → F.capacity < rows_held s + length xs → e.held ≡ rows_held s → e.offered ≡ length xs → (F.capacity < length xs) × (e.held ≡ 0) × (e.offered ≡ length xs)
    too_many e h p q = let z = empty in (omega arith, p ∙ z, q)

-- one batch in, and the oldest rows out
module _ {V Answer : Type 0} (F : Figure V Answer) (Stands : List ℕ → List (Option V) → Type 0) (laws : Lawful F Stands) (retracted : List ℕ → List (Option V) → List ℕ) (back : Retracting F Stands retracted) where
  pub slid : (s s' : List ℕ) (ys zs : List (Option V)) (r : Option Answer) → rows_held s + length ys ≤ F.capacity → s' ≡ retracted (F.updated s ys) zs → r ≡ F.answered s'
      → (xs rest : List (Option V)) → Stands s xs → xs ++ ys ≡ zs ++ rest → Stands s' rest × (r ≡ F.answer rest)
  slid s s' ys zs r h e is xs rest st same =
      let n = laws.holds s xs st in
      let grown = subst (Stands (F.updated s ys)) same (laws.grows s xs ys st (omega arith)) in
      let left : Stands s' rest = subst (λ (z : List ℕ). Stands z rest) (sym e) (back.shrinks (F.updated s ys) zs rest grown) in
      (left, is ∙ laws.answers s' rest left)
