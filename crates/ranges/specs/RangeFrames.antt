-- RANGE keeps the laws. Assumes nothing.
use Rattle.std.specs.Prelude.{◌≡◌, ℕ, All, zero, suc, ◌-◌, ◌<◌, ◌≤◌, Bool, true, false, cond, not, ◌&&◌, ◌||◌, ltb, ◌⊎◌, List, [], ◌∷◌, ◌++◌, length, ℤ, pos, is_some, Some, None, Option, nat_le, nat_lt, slice_index_or, refl}
use Rattle.std.proofs.Common.{sym, ap, subst, ◌∙◌, inl, inr, ⊎_elim, arith}
use Rattle.std.specs.List.{prefix_len}
use Rattle.std.proofs.lemmas.List.{get_or_append_left, length_push}
use Rattle.std.proofs.lemmas.Bool.{and_parts, both_ways, false≢true, ltb-true, ltb-false, lt-ltb, not-true}
use Rattle.std.proofs.lemmas.Bool.Decides.{nat_tests}
use Rattle.frames.specs.declared.frame.WindowFrameRange.{WindowFrameRange}
use Rattle.bounds.specs.declared.sort.SortOptions.{SortOptions}
use Rattle.bounds.specs.declared.bound.WindowFrameBound.{WindowFrameBound}
use Rattle.bounds.specs.declared.bound.WindowFrameBound.TheVariants.{UnboundedPreceding, Preceding, CurrentRow, Following, UnboundedFollowing}
use Rattle.bounds.specs.Bounds.{distant, offset, unbounded, is_unbounded_preceding}
use Rattle.bounds.specs.Orders.{precedes, place, before, at, last, NoneBefore, InOrder, row_ahead}
use Rattle.frames.specs.Standard.{moved, target, start_excludes, end_excludes}
use Rattle.ranges.specs.Ranges.{range_causal, range_closed, all_rows, range_rule, WellMade}
use Rattle.frames.specs.Rules.{Rule, previous, frame_of}
use Rattle.frames.specs.Laws.{Lawful, MayFollow, WouldGrow}
use Rattle.ranges.specs.Scans.{first_from}
use Rattle.ranges.specs.Fronts.{first_is, front_is, first_keeps, first_halts, first_later, leading_more, leading_mono}
use Rattle.bounds.proofs.Places.{lower, upper, by_place, placed}
use Rattle.ranges.specs.Moves.{turn, start_on, end_on, unmoved, moved_back}
use Rattle.ranges.specs.Aims.{no_bound, start_keeps, end_keeps, start_unaimed, end_unaimed}
use Rattle.frames.specs.OrderLists.{rising_at, in_order_front, valued_rest, none_before_row, coming}
use Rattle.frames.proofs.Previous.{previous_made, previous_within}
use Rattle.frames.specs.Waiting.{Sure, sure, unsure}

-- ---- order values that rise
module _ {O : Type 0} (keyed : O → ℕ) (base : ℕ) where
  abbrev seat : List (Option O) → ℕ → Option ℤ
  seat P i = place keyed base (at P i)

  valued : (s : SortOptions) (P : List (Option O)) → InOrder keyed (Some s) P → (i : ℕ) → i < length P → is_some (seat P i) ≡ true
  valued s P h i l = placed keyed base (at P i) (h.0 i None l)

  up : (o : Option SortOptions) (P : List (Option O)) → InOrder keyed o P → (k j : ℕ) → k ≤ j → j < length P → precedes o (seat P j) (seat P k) ≡ false
  up o P h k j l m = by_place keyed base o (at P j) (at P k) ∙ rising_at keyed o P h k j l m

  -- what sorts before a target, or not behind it, do so the rows before
  down_start : (o : Option SortOptions) (P : List (Option O)) → InOrder keyed o P → (t : Option ℤ) (k j : ℕ) → k ≤ j → j < length P → precedes o (seat P j) t ≡ true → precedes o (seat P k) t ≡ true
  down_start None P h t k j l m e = absurd (false≢true e)
  down_start (Some s) P h t k j l m e = lower (Some s) (seat P k) (seat P j) t (valued s P h k (omega arith)) (up (Some s) P h k j l m) e

  up_end : (o : Option SortOptions) (P : List (Option O)) → InOrder keyed o P → (t : Option ℤ) (k j : ℕ) → k ≤ j → j < length P → precedes o t (seat P k) ≡ true → precedes o t (seat P j) ≡ true
  up_end None P h t k j l m e = absurd (false≢true e)
  up_end (Some s) P h t k j l m e = upper (Some s) (seat P k) (seat P j) t (valued s P h j m) e (up (Some s) P h k j l m)

  down_end : (o : Option SortOptions) (P : List (Option O)) → InOrder keyed o P → (t : Option ℤ) (k j : ℕ) → k ≤ j → j < length P → not (precedes o t (seat P j)) ≡ true → not (precedes o t (seat P k)) ≡ true
  down_end o P h t k j l m e = step (precedes o t (seat P k)) refl
    where
      step : (b : Bool) → precedes o t (seat P k) ≡ b → not b ≡ true
      step false f = refl
      step true f = absurd (both_ways (precedes o t (seat P j)) (not-true (precedes o t (seat P j)) e) (up_end o P h t k j l m f))

  -- from row to row a target does not go back
  start_step : (o : Option SortOptions) (P : List (Option O)) → InOrder keyed o P → (x r : Option ℤ) (i : ℕ) → suc i < length P → precedes o r (moved o x (seat P i)) ≡ true → precedes o r (moved o x (seat P (suc i))) ≡ true
  start_step None P h x r i l e = absurd (false≢true e)
  start_step (Some s) P h x r i l e = start_on (Some s) x (seat P i) (seat P (suc i)) r (valued s P h (suc i) l) (up (Some s) P h i (suc i) (omega arith) l) e

  end_back : (o : Option SortOptions) (P : List (Option O)) → InOrder keyed o P → (x r : Option ℤ) (i : ℕ) → suc i < length P → precedes o (moved o x (seat P (suc i))) r ≡ true → precedes o (moved o x (seat P i)) r ≡ true
  end_back None P h x r i l e = absurd (false≢true e)
  end_back (Some s) P h x r i l e = end_on (Some s) x (seat P i) (seat P (suc i)) r (valued s P h i (omega arith)) (up (Some s) P h i (suc i) (omega arith) l) e

  end_step : (o : Option SortOptions) (P : List (Option O)) → InOrder keyed o P → (x r : Option ℤ) (i : ℕ) → suc i < length P → not (precedes o (moved o x (seat P i)) r) ≡ true → not (precedes o (moved o x (seat P (suc i))) r) ≡ true
  end_step o P h x r i l e = step (precedes o (moved o x (seat P (suc i))) r) refl
    where
      step : (b : Bool) → precedes o (moved o x (seat P (suc i))) r ≡ b → not b ≡ true
      step false f = refl
      step true f = absurd (both_ways (precedes o (moved o x (seat P i)) r) (not-true (precedes o (moved o x (seat P i)) r) e) (end_back o P h x r i l f))

-- ---- the frames of a rule
module _ {O : Type 0} (keyed : O → ℕ) (base : ℕ) (o : Option SortOptions) (a b : WindowFrameBound) (W : WellMade (record { start = a; end = b; order = o })) where
  abbrev rule : Rule O
  rule = range_rule keyed base o a b

  abbrev stays : Option O → Option O → Bool
  stays here v = not (end_excludes keyed base o b here v)

  in_turn : (here v : Option O) → start_excludes keyed base o a here v ≡ true → stays here v ≡ true
  in_turn here v e = ap not (turn o (offset a) (offset b) (place keyed base here) (place keyed base v) W.forward e)

  module _ (P : List (Option O)) where
    made : (i : ℕ) (p : WindowFrameRange) → p.start ≤ p.end → (rule.frame P i p).start ≤ (rule.frame P i p).end
    made i p h = go (unbounded a)
      where
        go : (t : Bool) → cond t 0 (first_from (start_excludes keyed base o a (at P i)) p.start P) ≤ first_from (stays (at P i)) p.end P
        go true = omega arith
        go false = first_later (start_excludes keyed base o a (at P i)) (stays (at P i)) (in_turn (at P i)) p.start p.end P h

    within : (i : ℕ) (p : WindowFrameRange) → (rule.frame P i p).end ≤ length P
    within i p = omega arith

    before_made : (i : ℕ) → (previous rule P i).start ≤ (previous rule P i).end
    before_made = previous_made rule P made

    before_within : (i : ℕ) → (previous rule P i).end ≤ length P
    before_within = previous_within rule P within

    from_0 : unbounded a ≡ true → (i : ℕ) (p : WindowFrameRange) → (rule.frame P i p).start ≡ 0
    from_0 e i p = ap (λ t. cond t 0 (first_from (start_excludes keyed base o a (at P i)) p.start P)) e

    before_from_0 : unbounded a ≡ true → (i : ℕ) → (previous rule P i).start ≡ 0
    before_from_0 e zero = refl
    before_from_0 e (suc i) = from_0 e i (previous rule P i)

    start_rises : (i : ℕ) → (previous rule P i).start ≤ (frame_of rule P i).start
    start_rises i = go (unbounded a) refl
      where
        m : (previous rule P i).start ≤ (previous rule P i).end
        m = before_made i

        w : (previous rule P i).end ≤ length P
        w = before_within i

        go : (t : Bool) → unbounded a ≡ t → (previous rule P i).start ≤ cond t 0 (first_from (start_excludes keyed base o a (at P i)) (previous rule P i).start P)
        go true e = omega (arith, before_from_0 e i)
        go false e = omega (arith, m, w)

    end_rises : (i : ℕ) → (previous rule P i).end ≤ (frame_of rule P i).end
    end_rises i = omega (arith, before_within i)

    -- a bound that takes in every row leads nowhere
    nowhere : (c : WindowFrameBound) → all_rows o c ≡ true → (v : Option O) → target keyed base o c v ≡ None
    nowhere UnboundedPreceding e v = no_bound keyed base o UnboundedPreceding v refl
    nowhere (Preceding d) e v = absurd (false≢true e)
    nowhere CurrentRow e v = go o e
      where
        go : (o : Option SortOptions) → not (is_some o) ≡ true → target keyed base o CurrentRow v ≡ None
        go None e = refl
        go (Some s) e = absurd (false≢true e)
    nowhere (Following d) e v = absurd (false≢true e)
    nowhere UnboundedFollowing e v = no_bound keyed base o UnboundedFollowing v refl

    whole_start : all_rows o a ≡ true → (i : ℕ) → (previous rule P i).start ≡ 0
    whole_start e zero = refl
    whole_start e (suc i) = go (unbounded a) (whole_start e i)
      where
        go : (t : Bool) → (previous rule P i).start ≡ 0 → cond t 0 (first_from (start_excludes keyed base o a (at P i)) (previous rule P i).start P) ≡ 0
        go true h = refl
        go false h = start_unaimed keyed base o a (at P i) (nowhere a e (at P i)) P (previous rule P i).start ∙ omega (arith, h)

    whole_end : all_rows o b ≡ true → (i : ℕ) → (frame_of rule P i).end ≡ length P
    whole_end e i = end_unaimed keyed base o b (at P i) (nowhere b e (at P i)) P (previous rule P i).end

    open_end : all_rows o b ≡ true → (newest : Option O) (i : ℕ) → (range_causal b ≡ false) × (range_closed keyed base o b P newest i ≡ false)
    open_end e newest i = go b e
      where
        unordered : (o : Option SortOptions) → not (is_some o) ≡ true → row_ahead keyed o P newest ≡ false
        unordered None e = refl
        unordered (Some s) e = absurd (false≢true e)

        go : (b : WindowFrameBound) → all_rows o b ≡ true → (range_causal b ≡ false) × (range_closed keyed base o b P newest i ≡ false)
        go UnboundedPreceding e = (refl, refl)
        go (Preceding d) e = absurd (false≢true e)
        go CurrentRow e = (refl, unordered o e)
        go (Following d) e = absurd (false≢true e)
        go UnboundedFollowing e = (refl, refl)

  -- over rows in order each bound is the one that a search from row 0 finds
  module _ (P : List (Option O)) (rises : InOrder keyed o P) where
    start_is : unbounded a ≡ false → (i : ℕ) → i < length P → (frame_of rule P i).start ≡ prefix_len (start_excludes keyed base o a (at P i)) P
    start_is e zero h = ap (λ t. cond t 0 (first_from (start_excludes keyed base o a (at P 0)) 0 P)) e ∙ first_is (start_excludes keyed base o a (at P 0)) P 0 (omega arith)
    start_is e (suc i) h =
        let q = start_excludes keyed base o a (at P i) in
        let r = start_excludes keyed base o a (at P (suc i)) in
        let more = leading_mono q r P None (λ j l. start_step keyed base o P rises (offset a) (seat keyed base P j) i h) in
        let ih = start_is e i (omega arith) in
        ap (λ t. cond t 0 (first_from r (frame_of rule P i).start P)) e ∙ first_is r P (frame_of rule P i).start (omega (arith, more, ih))

    end_is : (i : ℕ) → i < length P → (frame_of rule P i).end ≡ prefix_len (stays (at P i)) P
    end_is zero h = first_is (stays (at P 0)) P 0 (omega arith)
    end_is (suc i) h =
        let more = leading_mono (stays (at P i)) (stays (at P (suc i))) P None (λ j l. end_step keyed base o P rises (offset b) (seat keyed base P j) i h) in
        first_is (stays (at P (suc i))) P (frame_of rule P i).end (omega (arith, more, end_is i (omega arith)))

    -- and so a row lies in the frame exactly if neither bound removes it
    starts_by : (i j : ℕ) → i < length P → j < length P → nat_le (frame_of rule P i).start j ≡ not (start_excludes keyed base o a (at P i) (at P j))
    starts_by i j h k = go (unbounded a) refl
      where
        front : ltb j (prefix_len (start_excludes keyed base o a (at P i)) P) ≡ start_excludes keyed base o a (at P i) (at P j)
        front = front_is (start_excludes keyed base o a (at P i)) P None (λ k j l m. down_start keyed base o P rises (target keyed base o a (at P i)) k j l m) j k

        free : (c : WindowFrameBound) → unbounded c ≡ true → offset c ≡ None
        free UnboundedPreceding e = refl
        free (Preceding n) e = absurd (false≢true e)
        free CurrentRow e = absurd (false≢true e)
        free (Following n) e = absurd (false≢true e)
        free UnboundedFollowing e = refl

        go : (t : Bool) → unbounded a ≡ t → nat_le (frame_of rule P i).start j ≡ not (start_excludes keyed base o a (at P i) (at P j))
        go true e =
            let z = from_0 P e i (previous rule P i) in
            let n = start_keeps keyed base o a (at P i) (no_bound keyed base o a (at P i) (free a e)) (at P j) in
            grind (arith, nat_tests, z, n)
        go false e =
            let s = start_is e i h in
            grind (arith, nat_tests, s, front)

    ends_by : (i j : ℕ) → i < length P → j < length P → nat_lt j (frame_of rule P i).end ≡ stays (at P i) (at P j)
    ends_by i j h k = ap (λ n. ltb j n) (end_is i h) ∙ front_is (stays (at P i)) P None (λ k j l m. down_end keyed base o P rises (target keyed base o b (at P i)) k j l m) j k

  -- ---- rows that come later
  -- at CURRENT ROW and 0 PRECEDING the target is the row's own place
  own_place : (s : SortOptions) → offset b ≡ Some (pos 0) → o ≡ Some s → (v w : Option O) → end_excludes keyed base o b v w ≡ before keyed o v w
  own_place s z e v w =
      ap (λ x. precedes o (moved o x (place keyed base v)) (place keyed base w)) z
      ∙ ap (λ t. precedes o t (place keyed base w)) (subst (λ o. moved o (Some (pos 0)) (place keyed base v) ≡ place keyed base v) (sym e) (unmoved s (place keyed base v)))
      ∙ by_place keyed base o v w

  module _ (P rest : List (Option O)) (newest : Option O) (i : ℕ) (h : i < length P) (follow : MayFollow keyed rule P newest rest) where
    abbrev Removed : Type 0
    Removed = All (λ r. end_excludes keyed base o b (at P i) r ≡ true) rest

    inner : InOrder keyed o P
    inner = in_order_front keyed o P rest follow.0

    -- the target lies before t, and no row to come sorts before t
    past : (s : SortOptions) → o ≡ Some s → (t : Option O) → end_excludes keyed base o b (at P i) t ≡ true → NoneBefore keyed o t rest → Removed
    past s e t l n k d m =
        let r = slice_index_or rest k d in
        let v = valued_rest keyed s P rest (subst (λ o. InOrder keyed o (P ++ rest)) e follow.0) k d m in
        upper o (place keyed base t) (place keyed base r) (target keyed base o b (at P i)) (placed keyed base r v) l (by_place keyed base o r t ∙ n k d m)

    by_target : end_excludes keyed base o b (at P i) newest ≡ true → Removed
    by_target l = go o refl
      where
        go : (x : Option SortOptions) → o ≡ x → Removed
        go None e = absurd (false≢true (sym (ap (λ x. precedes x (target keyed base o b (at P i)) (place keyed base newest)) e) ∙ l))
        go (Some s) e = past s e newest l follow.1

    by_last_row : offset b ≡ Some (pos 0) → row_ahead keyed o P newest ≡ true → Removed
    by_last_row z l = go o refl
      where
        go : (x : Option SortOptions) → o ≡ x → Removed
        go None e = absurd (false≢true (sym (ap (λ x. before keyed x (last P) newest) e) ∙ l))
        go (Some s) e =
            let v = subst (λ o. is_some (place keyed 0 (at P i)) ≡ true) e (valued keyed 0 s P (subst (λ o. InOrder keyed o P) e inner) i h) in
            let k = lower o (place keyed 0 (at P i)) (place keyed 0 (last P)) (place keyed 0 newest) v (rising_at keyed o P inner i (length P - 1) (omega arith) (omega arith)) l in
            past s e newest (own_place s z e (at P i) newest ∙ k) follow.1

    by_distance : (d : ℕ) → b ≡ Preceding d → 0 < d → Removed
    by_distance d c l = go o refl
      where
        ordered : (x : Option SortOptions) → (distant a || distant (Preceding d)) && not (is_some x) ≡ false → is_some x ≡ true
        ordered x m = grind (arith, m)

        m : (distant a || distant (Preceding d)) && not (is_some o) ≡ false
        m = subst (λ b. (distant a || distant b) && not (is_some o) ≡ false) c W.measured

        go : (x : Option SortOptions) → o ≡ x → Removed
        go None e = absurd (false≢true (sym (ap is_some e) ∙ ordered o m))
        go (Some s) e =
            let v = valued keyed base s P (subst (λ o. InOrder keyed o P) e inner) i h in
            let back = moved_back s d (place keyed base (at P i)) l v in
            past s e (at P i) (subst (λ b. end_excludes keyed base o b (at P i) (at P i) ≡ true) (sym c) (subst (λ o. precedes o (moved o (offset (Preceding d)) (place keyed base (at P i))) (place keyed base (at P i)) ≡ true) (sym e) back)) (none_before_row keyed o P rest follow.0 i h)

    removed : (range_causal b ≡ true) ⊎ (range_closed keyed base o b P newest i ≡ true) → Removed
    removed c = go b refl c
      where
        back : (d : ℕ) → b ≡ Preceding d → (t : Bool) → nat_lt 0 d ≡ t → (t ≡ true) ⊎ (cond t (is_some o) (row_ahead keyed o P newest) ≡ true) → Removed
        back d e true l c = by_distance d e (ltb-true 0 d l)
        back d e false l c = by_last_row (ap offset e ∙ level (omega (arith, ltb-false 0 d l))) (⊎_elim (λ f. absurd (false≢true f)) (λ k. k) c)
          where
            level : d ≡ 0 → offset (Preceding d) ≡ Some (pos 0)
            level z = ap (λ n. offset (Preceding n)) z

        go : (x : WindowFrameBound) → b ≡ x → (range_causal x ≡ true) ⊎ (range_closed keyed base o x P newest i ≡ true) → Removed
        go UnboundedPreceding e c = absurd (⊎_elim (λ f. false≢true f) (λ f. false≢true f) c)
        go (Preceding d) e c = back d e (nat_lt 0 d) refl c
        go CurrentRow e c = ⊎_elim (λ f. absurd (false≢true f)) (λ k. by_last_row (ap offset e) k) c
        go (Following d) e c = ⊎_elim (λ f. absurd (false≢true f)) (λ k. by_target (ap (λ x. end_excludes keyed base o x (at P i) newest) e ∙ k)) c
        go UnboundedFollowing e c = absurd (⊎_elim (λ f. false≢true f) (λ f. false≢true f) c)

    complete : (p : WindowFrameRange) → p.start ≤ p.end → p.end ≤ length P → Sure rule P newest i (rule.frame P i p) → rule.frame (P ++ rest) i p ≡ rule.frame P i p
    complete p u v s = go s
      where
        same : at (P ++ rest) i ≡ at P i
        same = get_or_append_left P rest None i h

        starts : (w : Option O) → Option O → Bool
        starts w x = start_excludes keyed base o a w x

        alike : (first_from (starts (at P i)) p.start (P ++ rest) ≡ first_from (starts (at P i)) p.start P)
            → (first_from (stays (at P i)) p.end (P ++ rest) ≡ first_from (stays (at P i)) p.end P) → rule.frame (P ++ rest) i p ≡ rule.frame P i p
        alike x y =
            ap (λ w. record { start = cond (unbounded a) 0 (first_from (starts w) p.start (P ++ rest)); end = first_from (stays w) p.end (P ++ rest) }) same
            ∙ (λ j. record { start = cond (unbounded a) 0 (x j); end = y j })

        short : first_from (stays (at P i)) p.end P < length P → rule.frame (P ++ rest) i p ≡ rule.frame P i p
        short l = alike
            (first_keeps (starts (at P i)) P rest p.start (omega (arith, u, v)) (omega (arith, l, first_later (starts (at P i)) (stays (at P i)) (in_turn (at P i)) p.start p.end P u)))
            (first_keeps (stays (at P i)) P rest p.end v l)

        far : Removed → rule.frame (P ++ rest) i p ≡ rule.frame P i p
        far r = alike
            (first_halts (starts (at P i)) P rest p.start (omega (arith, u, v)) (λ k d l. out (slice_index_or rest k d) (r k d l)))
            (first_halts (stays (at P i)) P rest p.end v (λ k d l. ap not (r k d l)))
          where
            out : (x : Option O) → end_excludes keyed base o b (at P i) x ≡ true → starts (at P i) x ≡ false
            out x e = step (starts (at P i) x) refl
              where
                step : (t : Bool) → starts (at P i) x ≡ t → t ≡ false
                step false f = refl
                step true f = absurd (both_ways (end_excludes keyed base o b (at P i) x) (turn o (offset a) (offset b) (place keyed base (at P i)) (place keyed base x) W.forward f) e)

        go : ((rule.frame P i p).end < length P) ⊎ ((range_causal b ≡ true) ⊎ (range_closed keyed base o b P newest i ≡ true)) → rule.frame (P ++ rest) i p ≡ rule.frame P i p
        go (inl l) = short l
        go (inr c) = far (removed c)

  closed_before : (P : List (Option O)) (newest : Option O) (i : ℕ) → suc i < length P → InOrder keyed o P → range_closed keyed base o b P newest (suc i) ≡ true → range_closed keyed base o b P newest i ≡ true
  closed_before P newest i h r c = go b c
    where
      go : (b : WindowFrameBound) → range_closed keyed base o b P newest (suc i) ≡ true → range_closed keyed base o b P newest i ≡ true
      go UnboundedPreceding c = c
      go (Preceding d) c = c
      go CurrentRow c = c
      go (Following d) c = end_back keyed base o P r (offset (Following d)) (place keyed base newest) i h c
      go UnboundedFollowing c = c

  -- ---- a row that may still come, and would belong to a frame that is not sure
  module _ (P : List (Option O)) (newest : Option O) (i : ℕ) (h : i < length P) (rises : InOrder keyed o P) where
    module _ (full : (frame_of rule P i).end ≡ length P) where
      all_stay : prefix_len (stays (at P i)) P ≡ length P
      all_stay = sym (end_is P rises i h) ∙ full

      last_stays : stays (at P i) (last P) ≡ true
      last_stays =
          let f = front_is (stays (at P i)) P None (λ k j l m. down_end keyed base o P rises (target keyed base o b (at P i)) k j l m) (length P - 1) (omega arith) in
          sym f ∙ lt-ltb (length P - 1) (prefix_len (stays (at P i)) P) (omega (arith, all_stay))

      grows : (v : Option O) → InOrder keyed o (P ++ v ∷ []) → stays (at P i) v ≡ true → (frame_of rule (P ++ v ∷ []) i).end ≡ suc (length P)
      grows v more e =
          end_is (P ++ v ∷ []) more i (omega (arith, length_push P v))
          ∙ ap (λ w. prefix_len (stays w) (P ++ v ∷ [])) (get_or_append_left P (v ∷ []) None i h)
          ∙ leading_more (stays (at P i)) P v all_stay e

      newest_stays : before keyed o (last P) newest ≡ true → range_causal b ≡ false → range_closed keyed base o b P newest i ≡ false → stays (at P i) newest ≡ true
      newest_stays l c n = go b refl c n
        where
          go : (x : WindowFrameBound) → b ≡ x → range_causal x ≡ false → range_closed keyed base o x P newest i ≡ false → stays (at P i) newest ≡ true
          go UnboundedPreceding e c n = absurd (both_ways (is_unbounded_preceding b) W.ended (ap is_unbounded_preceding e))
          go (Preceding d) e c n = absurd (both_ways (before keyed o (last P) newest) (sym (ap (λ t. cond t (is_some o) (row_ahead keyed o P newest)) c) ∙ n) l)
          go CurrentRow e c n = absurd (both_ways (before keyed o (last P) newest) n l)
          go (Following d) e c n = ap not (ap (λ x. end_excludes keyed base o x (at P i) newest) e ∙ n)
          go UnboundedFollowing e c n = ap not (end_keeps keyed base o b (at P i) (no_bound keyed base o b (at P i) (ap offset e)) newest)

      as_early : range_causal b ≡ false → range_closed keyed base o b P newest i ≡ false → WouldGrow keyed rule P newest i
      as_early c n =
          let v = coming keyed P newest (omega arith) o rises in
          (v.0, ((v.1.0, v.1.1), grows v.0 v.1.0 (taken (before keyed o (last P) newest) refl v.0 v.1.2 v.1.3)))
        where
          taken : (t : Bool) → before keyed o (last P) newest ≡ t → (v : Option O) → (v ≡ last P) ⊎ (v ≡ newest) → (before keyed o (last P) newest ≡ false → v ≡ last P) → stays (at P i) v ≡ true
          taken false e v w f = ap (stays (at P i)) (f e) ∙ last_stays
          taken true e v w f = ⊎_elim (λ q. ap (stays (at P i)) q ∙ last_stays) (λ q. ap (stays (at P i)) q ∙ newest_stays e c n) w

  pub range_lawful : Lawful keyed rule
  range_lawful = record {
    made = λ P i p h. made P i p h;
    within = λ P i p. within P i p;
    start_rises = start_rises;
    end_rises = end_rises;
    starts_first = λ e P i p. from_0 P e i p;
    end_alone = λ P i p q e. ap (λ n. first_from (stays (at P i)) n P) e;
    whole = λ e P newest i h.
        let c = and_parts (all_rows o a) (all_rows o b) e in
        let s = whole_start P c.0 (suc i) in
        let t = whole_end P c.1 i in
        let n = open_end P c.1 newest i in
        ((λ j. record { start = s j; end = t j }), n.0, n.1);
    standard = λ P i j h k r. λ n. starts_by P r i j h k n && ends_by P r i j h k n;
    complete = λ P rest newest i p h u v f w. complete P rest newest i h f p u v (sure rule P newest i (rule.frame P i p) w);
    closed_before = closed_before;
    waits_rightly = λ e P newest i h r w.
        let u = unsure rule P newest i (frame_of rule P i) w in
        as_early P newest i h r (omega (arith, u.0, within P i (previous rule P i))) u.1 u.2;
  }
