-- ROWS keeps the laws. Assumes nothing.
use Rattle.std.specs.Prelude.{◌≡◌, ℕ, zero, suc, ◌+◌, ◌<◌, ◌≤◌, true, false, not, ◌&&◌, ◌||◌, ◌⊎◌, List, [], ◌∷◌, ◌++◌, length, is_some, Option, nat_le, nat_lt, refl}
use Rattle.std.proofs.Common.{◌∙◌, inl, inr, ⊎_elim, arith, length-append}
use Rattle.std.proofs.lemmas.Int.{ints}
use Rattle.std.proofs.lemmas.List.{length_push}
use Rattle.std.proofs.lemmas.Bool.{and_parts, false≢true, true≢false}
use Rattle.std.proofs.lemmas.Bool.Decides.{nat_tests}
use Rattle.bounds.specs.declared.sort.SortOptions.{SortOptions}
use Rattle.bounds.specs.declared.bound.WindowFrameBound.{WindowFrameBound}
use Rattle.bounds.specs.declared.bound.WindowFrameBound.TheVariants.{UnboundedPreceding, Preceding, CurrentRow, Following, UnboundedFollowing}
use Rattle.bounds.specs.Bounds.{behind, unbounded, is_unbounded_following, is_unbounded_preceding}
use Rattle.frames.specs.Standard.{rows_start_excludes, rows_end_excludes}
use Rattle.frames.specs.Rows.{rows_to, rows_start, rows_end, rows_causal, rows_rule}
use Rattle.frames.specs.Laws.{Lawful}
use Rattle.frames.specs.OrderLists.{coming}
use Rattle.frames.specs.Waiting.{sure, unsure}

-- ---- one bound
rises : (a : WindowFrameBound) (L i : ℕ) → rows_to a L i ≤ rows_to a L (suc i)
rises UnboundedPreceding L i = omega arith
rises (Preceding n) L i = omega arith
rises CurrentRow L i = omega arith
rises (Following n) L i = omega arith
rises UnboundedFollowing L i = omega arith

within : (a : WindowFrameBound) (L i : ℕ) → rows_to a L i ≤ L
within UnboundedPreceding L i = omega arith
within (Preceding n) L i = omega arith
within CurrentRow L i = omega arith
within (Following n) L i = omega arith
within UnboundedFollowing L i = omega arith

start_excludes : (a : WindowFrameBound) (L i j : ℕ) → i < L → j < L → nat_le (rows_start a L i) j ≡ not (rows_start_excludes a i j)
start_excludes UnboundedPreceding L i j h k = grind (arith, nat_tests)
start_excludes (Preceding n) L i j h k = grind (arith, nat_tests)
start_excludes CurrentRow L i j h k = grind (arith, nat_tests)
start_excludes (Following n) L i j h k = grind (arith, nat_tests)
start_excludes UnboundedFollowing L i j h k = grind (arith, nat_tests)

end_excludes : (b : WindowFrameBound) (L i j : ℕ) → i < L → j < L → nat_lt j (rows_end b L i) ≡ not (rows_end_excludes b i j)
end_excludes UnboundedPreceding L i j h k = grind (arith, nat_tests)
end_excludes (Preceding n) L i j h k = grind (arith, nat_tests)
end_excludes CurrentRow L i j h k = grind (arith, nat_tests)
end_excludes (Following n) L i j h k = grind (arith, nat_tests)
end_excludes UnboundedFollowing L i j h k = grind (arith, nat_tests)

-- an end that is causal, or before the row count, is the same in a longer column
module _ (L M i : ℕ) (h : i < L) (k : L ≤ M) where
  end_stays : (b : WindowFrameBound) → (rows_causal b ≡ true) ⊎ (rows_end b L i < L) → rows_end b M i ≡ rows_end b L i
  end_stays UnboundedPreceding c = refl
  end_stays (Preceding n) c = omega arith
  end_stays CurrentRow c = omega arith
  end_stays (Following n) c = ⊎_elim (λ e. grind (arith, nat_tests)) (λ l. omega arith) c
  end_stays UnboundedFollowing c = ⊎_elim (λ e. absurd (false≢true e)) (λ l. absurd (omega arith)) c

-- ---- two bounds, of which the start does not lie behind the end
module _ (a b : WindowFrameBound) (first : is_unbounded_following a ≡ false) (final : is_unbounded_preceding b ≡ false) (forward : behind a b ≡ false) where
  start_end : (L i : ℕ) → rows_start a L i ≤ rows_end b L i
  start_end = go a b first final forward
    where
      go : (a b : WindowFrameBound) → is_unbounded_following a ≡ false → is_unbounded_preceding b ≡ false → behind a b ≡ false → (L i : ℕ) → rows_start a L i ≤ rows_end b L i
      go UnboundedPreceding b x y f L i = omega arith
      go UnboundedFollowing b x y f L i = absurd (true≢false x)
      go (Preceding n) UnboundedPreceding x y f L i = absurd (true≢false y)
      go (Preceding n) (Preceding m) x y f L i = let w : m ≤ n = grind (arith, ints) in omega arith
      go (Preceding n) CurrentRow x y f L i = omega arith
      go (Preceding n) (Following m) x y f L i = omega arith
      go (Preceding n) UnboundedFollowing x y f L i = omega arith
      go CurrentRow UnboundedPreceding x y f L i = absurd (true≢false y)
      go CurrentRow (Preceding m) x y f L i = let w : m ≤ 0 = grind (arith, ints) in omega arith
      go CurrentRow CurrentRow x y f L i = omega arith
      go CurrentRow (Following m) x y f L i = omega arith
      go CurrentRow UnboundedFollowing x y f L i = omega arith
      go (Following n) UnboundedPreceding x y f L i = absurd (true≢false y)
      go (Following n) (Preceding m) x y f L i = let w : n + m ≤ 0 = grind (arith, ints) in omega arith
      go (Following n) CurrentRow x y f L i = let w : n ≤ 0 = grind (arith, ints) in omega arith
      go (Following n) (Following m) x y f L i = let w : n ≤ m = grind (arith, ints) in omega arith
      go (Following n) UnboundedFollowing x y f L i = omega arith

  start_stays : (L M i : ℕ) → i < L → L ≤ M → (rows_causal b ≡ true) ⊎ (rows_end b L i < L) → rows_start a M i ≡ rows_start a L i
  start_stays L M i h k c = go a (start_end M i) (start_end L i)
    where
      same : rows_end b M i ≡ rows_end b L i
      same = end_stays L M i h k b c

      inner : rows_end b L i ≤ L
      inner = within b L (suc i)

      go : (a : WindowFrameBound) → rows_start a M i ≤ rows_end b M i → rows_start a L i ≤ rows_end b L i → rows_start a M i ≡ rows_start a L i
      go UnboundedPreceding u v = refl
      go (Preceding n) u v = omega arith
      go CurrentRow u v = omega arith
      go (Following n) u v = omega (arith, same, inner)
      go UnboundedFollowing u v = omega (arith, same, inner)

  module _ {O : Type 0} (keyed : O → ℕ) (order : Option SortOptions) where
    whole : unbounded a && unbounded b ≡ true → (P : List (Option O)) (i : ℕ) → (rows_start a (length P) i ≡ 0) × (rows_end b (length P) i ≡ length P) × (rows_causal b ≡ false)
    whole = go a b first final
      where
        go : (a b : WindowFrameBound) → is_unbounded_following a ≡ false → is_unbounded_preceding b ≡ false → unbounded a && unbounded b ≡ true
            → (P : List (Option O)) (i : ℕ) → (rows_start a (length P) i ≡ 0) × (rows_end b (length P) i ≡ length P) × (rows_causal b ≡ false)
        go UnboundedPreceding UnboundedPreceding x y e P i = absurd (true≢false y)
        go UnboundedPreceding (Preceding n) x y e P i = absurd (false≢true e)
        go UnboundedPreceding CurrentRow x y e P i = absurd (false≢true e)
        go UnboundedPreceding (Following n) x y e P i = absurd (false≢true e)
        go UnboundedPreceding UnboundedFollowing x y e P i = (refl, refl, refl)
        go (Preceding n) b x y e P i = absurd (false≢true e)
        go CurrentRow b x y e P i = absurd (false≢true e)
        go (Following n) b x y e P i = absurd (false≢true e)
        go UnboundedFollowing b x y e P i = absurd (true≢false x)

    from_0 : unbounded a ≡ true → (L i : ℕ) → rows_start a L i ≡ 0
    from_0 = go a first
      where
        go : (a : WindowFrameBound) → is_unbounded_following a ≡ false → unbounded a ≡ true → (L i : ℕ) → rows_start a L i ≡ 0
        go UnboundedPreceding x e L i = refl
        go (Preceding n) x e L i = absurd (false≢true e)
        go CurrentRow x e L i = absurd (false≢true e)
        go (Following n) x e L i = absurd (false≢true e)
        go UnboundedFollowing x e L i = absurd (true≢false x)

    open_end : rows_causal b || unbounded b ≡ true → rows_causal b ≡ false → (L i : ℕ) → rows_end b L i ≡ L
    open_end = go b final
      where
        go : (b : WindowFrameBound) → is_unbounded_preceding b ≡ false → rows_causal b || unbounded b ≡ true → rows_causal b ≡ false → (L i : ℕ) → rows_end b L i ≡ L
        go UnboundedPreceding y e c L i = absurd (true≢false y)
        go (Preceding n) y e c L i = absurd (true≢false c)
        go CurrentRow y e c L i = absurd (true≢false c)
        go (Following n) y e c L i = absurd (grind (arith, nat_tests))
        go UnboundedFollowing y e c L i = refl

    safe_causal : is_some order && rows_causal b ≡ true → rows_causal b ≡ true
    safe_causal e = (and_parts (is_some order) (rows_causal b) e).1

    unsafe : rows_causal b ≡ false → is_some order && rows_causal b ≡ false
    unsafe e = grind (arith, e)

    pub rows_lawful : Lawful keyed (rows_rule order a b)
    rows_lawful = record {
      made = λ P i p h. start_end (length P) i;
      within = λ P i p. within b (length P) (suc i);
      start_rises = λ P. elim [ zero ↦ omega arith | suc i ↦ rises a (length P) i ];
      end_rises = λ P. elim [ zero ↦ omega arith | suc i ↦ rises b (length P) (suc i) ];
      starts_first = λ e P i p. from_0 e (length P) i;
      end_alone = λ P i p q e. refl;
      whole = λ e P newest i h. let w = whole e P i in ((λ j. record { start = w.0 j; end = w.1 j }), w.2, unsafe w.2);
      standard = λ P i j h k o. λ n. start_excludes a (length P) i j h k n && end_excludes b (length P) i j h k n;
      complete = λ P rest newest i p h u v f w.
          let s = sure (rows_rule order a b) P newest i (record { start = rows_start a (length P) i; end = rows_end b (length P) i }) w in
          let wide : length P ≤ length (P ++ rest) = omega (arith, length-append P rest) in
          let c : (rows_causal b ≡ true) ⊎ (rows_end b (length P) i < length P) = ⊎_elim (λ l. inr l) (λ r. ⊎_elim (λ e. inl e) (λ e. inl (safe_causal e)) r) s in
          let x = start_stays (length P) (length (P ++ rest)) i h wide c in
          let y = end_stays (length P) (length (P ++ rest)) i h wide b c in
          λ j. record { start = x j; end = y j };
      closed_before = λ P newest i h o e. e;
      waits_rightly = λ e P newest i h o w.
          let u = unsure (rows_rule order a b) P newest i (record { start = rows_start a (length P) i; end = rows_end b (length P) i }) w in
          let v = coming keyed P newest (omega arith) order o in
          (v.0, ((v.1.0, v.1.1), open_end e u.1 (length (P ++ v.0 ∷ [])) i ∙ omega (arith, length_push P v.0)));
    }
