-- A search of a column, by what `position` finds in its values. Assumes nothing.
use Rattle.std.proofs.Common.{◌≡◌, ℕ, ◌+◌, ◌<◌, ◌≤◌, min, Bool, true, false, cond, not, ltb, List, [], ◌∷◌, All, map, replicate, length, drop, Some, None, Option, refl, sym, subst, ap, ◌∙◌, ⊎_elim, arith, length-drop}
use Rattle.std.specs.List.{between, position, prefix_len, position_or_len}
use Rattle.std.specs.Option.{MatchOption}
use Rattle.std.proofs.lemmas.List.{drop-map, length-map, length-replicate}
use Rattle.std.proofs.lemmas.List.Elements.{All-replicate}
use Rattle.std.proofs.lemmas.Slice.{between_to_end}
use Rattle.std.proofs.lemmas.Bool.{cases_lt, ltb-true, ltb-false}
use Rattle.ranges.specs.Fronts.{first_none, first_all}
use Rattle.ranges.specs.Scans.{first_from}

-- a search from past the last row finds none
pub first_clipped : {X : Type 0} (p : X → Bool) (xs : List X) (from s : ℕ) → s ≡ min from (length xs) → first_from p s xs ≡ first_from p from xs
first_clipped p xs from s e = ⊎_elim
    (λ (l : length xs < from). omega arith)
    (λ (l : from ≤ length xs). let same : s ≡ from = omega arith in ap (λ n. first_from p n xs) same)
    (cases_lt (length xs) from)

module _ {O : Type 0} (test : Option O → Bool) where
  front : (xs : List O) → prefix_len test (map Some xs) ≡ position_or_len (λ x. not (test (Some x))) xs
  front [] = refl
  front (x ∷ xs) = let ih = front xs in grind (arith, ih)

  chosen : (k l total s n : ℕ) → s + l ≡ total → MatchOption (cond (ltb k l) (Some k) None) (n ≡ total) (λ j. n ≡ s + j) → n ≡ min total (s + k)
  chosen k l total s n e m = step (ltb k l) refl m
    where
      step : (b : Bool) → ltb k l ≡ b → MatchOption (cond b (Some k) None) (n ≡ total) (λ j. n ≡ s + j) → n ≡ min total (s + k)
      step true f m = omega (arith, ltb-true k l f)
      step false f m = omega (arith, ltb-false k l f)

  module _ (rows : List (Option O)) (from : ℕ) where
    -- found is what `position` finds in the values from s on, and n the row that this gives
    pub first_by_position : (values : List O) → rows ≡ map Some values → (s : ℕ) (found : Option ℕ) (n : ℕ) → s ≡ min from (length rows)
        → found ≡ position (λ x. not (test (Some x))) (between s (length values) values)
        → MatchOption found (n ≡ length values) (λ k. n ≡ s + k) → n ≡ first_from test from rows
    first_by_position values shows s found n e f m =
        let fails = λ (x : O). not (test (Some x)) in
        let d = length-drop s values in
        let l : length rows ≡ length values = ap length shows ∙ length-map values (λ (x : O). Some x) in
        let there = f ∙ ap (position fails) (between_to_end values s (length values) (omega arith)) in
        let leads = ap (λ xs. prefix_len test (drop s xs)) shows ∙ ap (prefix_len test) (drop-map (λ (x : O). Some x) s values) ∙ front (drop s values) in
        let here = chosen (position_or_len fails (drop s values)) (length (drop s values)) (length values) s n (omega arith) (subst (λ r. MatchOption r (n ≡ length values) (λ k. n ≡ s + k)) there m) in
        omega (arith, here, leads, l) ∙ first_clipped test rows from s e

    -- rows that all show nothing
    module _ (n : ℕ) (shows : rows ≡ replicate n None) where
      alike : (b : Bool) → test None ≡ b → All (λ v. test v ≡ b) rows
      alike b e = subst (All (λ v. test v ≡ b)) (sym shows) (All-replicate (λ v. test v ≡ b) n None e)

      pub first_none_passes : (s : ℕ) → s ≡ min from (length rows) → test None ≡ false → s ≡ first_from test from rows
      first_none_passes s e f = e ∙ sym (first_none test rows (alike false f) from)

      pub first_all_pass : test None ≡ true → n ≡ first_from test from rows
      first_all_pass e = sym (first_all test rows (alike true e) from ∙ ap length shows ∙ length-replicate n None)
