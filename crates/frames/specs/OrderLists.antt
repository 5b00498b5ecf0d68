-- Columns in order. Assumes nothing.
use Rattle.std.specs.Prelude.{◌≡◌, ℕ, All, zero, suc, ◌+◌, ◌-◌, ◌<◌, ◌≤◌, Bool, true, false, ◌⊎◌, List, [], ◌∷◌, ◌++◌, length, is_some, Some, None, Option, slice_index_or, refl}
use Rattle.std.proofs.Common.{sym, subst, ◌∙◌, inl, inr, arith, length-append}
use Rattle.std.proofs.Math.Seq.{take-append_seam, drop-append_seam}
use Rattle.std.proofs.lemmas.List.{get_or_append_left, get_or-append-add}
use Rattle.std.proofs.lemmas.List.Elements.{All-nil, All-head, All-tail, All-replicate, All-from_get_or, All-push, All-take, All-drop}
use Rattle.std.proofs.lemmas.Bool.{false≢true}
use Rattle.bounds.specs.declared.sort.SortOptions.{SortOptions}
use Rattle.bounds.specs.Orders.{place, before, NoneBefore, Rising, InOrder, at, last}
use Rattle.bounds.proofs.Places.{peers_of_itself, not_after}

module _ {O : Type 0} (keyed : O → ℕ) where
  -- a row never sorts before an earlier one, nor before itself
  rising : (s : SortOptions) (P : List (Option O)) → Rising keyed (Some s) P → (k j : ℕ) → k ≤ j → j < length P → before keyed (Some s) (at P j) (at P k) ≡ false
  rising s [] r k j l h = absurd (omega arith)
  rising s (v ∷ P) r zero zero l h = peers_of_itself (Some s) (place keyed 0 v)
  rising s (v ∷ P) r zero (suc j) l h = r.0 j None (omega arith)
  rising s (v ∷ P) r (suc k) zero l h = absurd (omega arith)
  rising s (v ∷ P) r (suc k) (suc j) l h = rising s P r.1 k j (omega arith) (omega arith)

  pub rising_at : (o : Option SortOptions) (P : List (Option O)) → InOrder keyed o P → (k j : ℕ) → k ≤ j → j < length P → before keyed o (at P j) (at P k) ≡ false
  rising_at None P h k j l m = refl
  rising_at (Some s) P h k j l m = rising s P h.1 k j l m

  all_front : (Q : Option O → Type 0) (P rest : List (Option O)) → All Q (P ++ rest) → All Q P
  all_front Q P rest h = subst (All Q) (take-append_seam P rest) (All-take Q (length P) (P ++ rest) h)

  rising_front : (s : SortOptions) (P rest : List (Option O)) → Rising keyed (Some s) (P ++ rest) → Rising keyed (Some s) P
  rising_front s [] rest r = tt
  rising_front s (v ∷ P) rest r = (all_front (λ w. before keyed (Some s) w v ≡ false) P rest r.0, rising_front s P rest r.1)

  pub in_order_front : (o : Option SortOptions) (P rest : List (Option O)) → InOrder keyed o (P ++ rest) → InOrder keyed o P
  in_order_front None P rest h = tt
  in_order_front (Some s) P rest h = (all_front (λ v. is_some v ≡ true) P rest h.0, rising_front s P rest h.1)

  pub valued_rest : (s : SortOptions) (P rest : List (Option O)) → InOrder keyed (Some s) (P ++ rest) → All (λ v. is_some v ≡ true) rest
  valued_rest s P rest h = subst (All (λ v. is_some v ≡ true)) (drop-append_seam P rest) (All-drop (λ v. is_some v ≡ true) (length P) (P ++ rest) h.0)

  -- rows to come do not sort before row k
  pub none_before_row : (o : Option SortOptions) (P rest : List (Option O)) → InOrder keyed o (P ++ rest) → (k : ℕ) → k < length P → NoneBefore keyed o (at P k) rest
  none_before_row o P rest h k l = All-from_get_or (λ w. before keyed o w (at P k) ≡ false) rest None each
    where
      each : (j : ℕ) → j < length rest → before keyed o (slice_index_or rest j None) (at P k) ≡ false
      each j m =
          let n = length-append P rest in
          let r = rising_at o (P ++ rest) h k (length P + j) (omega arith) (omega arith) in
          subst (λ v. before keyed o v (at P k) ≡ false) (get_or-append-add P rest j None)
          (subst (λ v. before keyed o (at (P ++ rest) (length P + j)) v ≡ false) (get_or_append_left P rest None k l) r)

  rising_push : (s : SortOptions) (P : List (Option O)) (v : Option O) → Rising keyed (Some s) P → All (λ w. before keyed (Some s) v w ≡ false) P → Rising keyed (Some s) (P ++ v ∷ [])
  rising_push s [] v r h = (All-nil (λ w. before keyed (Some s) w v ≡ false), tt)
  rising_push s (w ∷ P) v r h =
      let Q = λ (x : Option O). before keyed (Some s) v x ≡ false in
      (All-push (λ x. before keyed (Some s) x w ≡ false) P v r.0 (All-head Q w P h), rising_push s P v r.1 (All-tail Q w P h))

  -- there is always a row that may come: one like the last, or like the most recent row
  module _ (P : List (Option O)) (newest : Option O) (some : 0 < length P) where
    abbrev Coming : Option SortOptions → Type 0
    Coming o = (v : Option O) × (InOrder keyed o (P ++ v ∷ []) × NoneBefore keyed o newest (v ∷ []) × ((v ≡ last P) ⊎ (v ≡ newest)) × (before keyed o (last P) newest ≡ false → v ≡ last P))

    alone : (o : Option SortOptions) (v : Option O) → before keyed o v newest ≡ false → NoneBefore keyed o newest (v ∷ [])
    alone o v e = All-replicate (λ w. before keyed o w newest ≡ false) 1 v e

    shown : (s : SortOptions) (a b : Option O) → before keyed (Some s) a b ≡ true → is_some b ≡ true
    shown s None b h = absurd (false≢true h)
    shown s (Some a) None h = absurd (false≢true h)
    shown s (Some a) (Some b) h = refl

    up_to_last : (s : SortOptions) → InOrder keyed (Some s) P → All (λ w. before keyed (Some s) (last P) w ≡ false) P
    up_to_last s h = All-from_get_or (λ w. before keyed (Some s) (last P) w ≡ false) P None (λ j l. rising_at (Some s) P h j (length P - 1) (omega arith) (omega arith))

    by_last : (s : SortOptions) → InOrder keyed (Some s) P → (b : Bool) → before keyed (Some s) (last P) newest ≡ b → Coming (Some s)
    by_last s h true e = (
      newest,
      (
        (
          All-push (λ v. is_some v ≡ true) P newest h.0 (shown s (last P) newest e),
          rising_push s P newest h.1 (All-from_get_or (λ w. before keyed (Some s) newest w ≡ false) P None (λ j l. not_after (Some s) (place keyed 0 (last P)) (place keyed 0 newest) (place keyed 0 (at P j)) e (up_to_last s h j None l))),
        ),
        alone (Some s) newest (peers_of_itself (Some s) (place keyed 0 newest)),
        inr refl,
        λ f. absurd (false≢true (sym f ∙ e)),
      ),
    )
    by_last s h false e = (
      last P,
      (
        (
          All-push (λ v. is_some v ≡ true) P (last P) h.0 (h.0 (length P - 1) None (omega arith)),
          rising_push s P (last P) h.1 (up_to_last s h),
        ),
        alone (Some s) (last P) e,
        inl refl,
        λ f. refl,
      ),
    )

    pub coming : (o : Option SortOptions) → InOrder keyed o P → Coming o
    coming None h = (last P, (tt, alone None (last P) refl, inl refl, λ f. refl))
    coming (Some s) h = by_last s h (before keyed (Some s) (last P) newest) refl
