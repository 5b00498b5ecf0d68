-- The longest front of a list that passes a test, and searches that go on from within it. Assumes nothing.
use Rattle.std.specs.Prelude.{◌≡◌, ℕ, All, zero, suc, ◌+◌, ◌<◌, ◌≤◌, min, Bool, true, false, cond, List, [], ◌∷◌, ◌++◌, length, drop, nat_lt, slice_index_or, refl}
use Rattle.std.proofs.Common.{ap, ◌∙◌, arith, length-drop, length-append}
use Rattle.std.specs.List.{prefix_len}
use Rattle.std.proofs.lemmas.List.{drop-append-le}
use Rattle.std.proofs.lemmas.List.Elements.{All-drop}
use Rattle.std.proofs.lemmas.List.Folds.{prefix_len-append}
use Rattle.std.proofs.lemmas.List.Sums.{prefix_len-le-length, prefix_len_is, prefix_len_passes, prefix_len_stops}
use Rattle.std.proofs.lemmas.Bool.{lt-ltb, le-ltb, both_ways}
use Rattle.std.proofs.lemmas.Bool.Decides.{nat_tests}
use Rattle.ranges.specs.Scans.{first_from}

module _ {X : Type 0} (p : X → Bool) where
  -- to go on from within the front
  leading_from : (xs : List X) (s : ℕ) → s ≤ prefix_len p xs → s + prefix_len p (drop s xs) ≡ prefix_len p xs
  leading_from xs zero h = omega arith
  leading_from [] (suc s) h = omega arith
  leading_from (x ∷ xs) (suc s) h = let ih = leading_from xs s in grind (arith, ih)

  pub first_is : (xs : List X) (s : ℕ) → s ≤ prefix_len p xs → first_from p s xs ≡ prefix_len p xs
  first_is xs s h = omega (arith, leading_from xs s h, prefix_len-le-length p xs)

  -- where a row passes with each row that does, and is not behind it, the front has just the rows that pass
  pub front_is : (xs : List X) (d : X) → ((k j : ℕ) → k ≤ j → j < length xs → p (slice_index_or xs j d) ≡ true → p (slice_index_or xs k d) ≡ true)
      → (j : ℕ) → j < length xs → nat_lt j (prefix_len p xs) ≡ p (slice_index_or xs j d)
  front_is xs d down j h = step (p (slice_index_or xs j d)) refl
    where
      step : (b : Bool) → p (slice_index_or xs j d) ≡ b → nat_lt j (prefix_len p xs) ≡ b
      step false e = le-ltb j (prefix_len p xs) (let no : j < prefix_len p xs → ⊥ = λ l. both_ways (p (slice_index_or xs j d)) e (prefix_len_passes p xs j d l) in omega (arith, no))
      step true e = lt-ltb j (prefix_len p xs) (let no : prefix_len p xs ≤ j → ⊥ = λ l. both_ways (p (slice_index_or xs (prefix_len p xs) d)) (prefix_len_stops p xs d (omega arith)) (down (prefix_len p xs) j l h e) in omega (arith, no))

  none_leads : (xs : List X) → All (λ x. p x ≡ false) xs → prefix_len p xs ≡ 0
  none_leads [] none = refl
  none_leads (x ∷ xs) none = ap (λ b. cond b (1 + prefix_len p xs) 0) (none 0 x (omega arith))

  all_lead : (xs : List X) → All (λ x. p x ≡ true) xs → prefix_len p xs ≡ length xs
  all_lead [] all = refl
  all_lead (x ∷ xs) all = prefix_len_is p (x ∷ xs) (suc (length xs)) x (omega arith) (λ k. all k x) (λ l. absurd (omega arith))

  -- a longer list whose front ends within the first part, or is not taken up again behind it
  leading_keeps : (xs ys : List X) → prefix_len p xs < length xs → prefix_len p (xs ++ ys) ≡ prefix_len p xs
  leading_keeps xs ys h = grind (arith, nat_tests, prefix_len-append p xs ys)

  leading_halts : (xs ys : List X) → All (λ y. p y ≡ false) ys → prefix_len p (xs ++ ys) ≡ prefix_len p xs
  leading_halts xs ys h = let n = none_leads ys h in let l = prefix_len-le-length p xs in grind (arith, nat_tests, n, l, prefix_len-append p xs ys)

  pub first_keeps : (xs ys : List X) (s : ℕ) → s ≤ length xs → first_from p s xs < length xs → first_from p s (xs ++ ys) ≡ first_from p s xs
  first_keeps xs ys s h short =
      let d = length-drop s xs in
      let l = length-append xs ys in
      let e = ap (λ z. prefix_len p z) (drop-append-le s xs ys h) ∙ leading_keeps (drop s xs) ys (omega arith) in
      omega arith

  pub first_halts : (xs ys : List X) (s : ℕ) → s ≤ length xs → All (λ y. p y ≡ false) ys → first_from p s (xs ++ ys) ≡ first_from p s xs
  first_halts xs ys s h none =
      let d = length-drop s xs in
      let l = length-append xs ys in
      let m = prefix_len-le-length p (drop s xs) in
      let e = ap (λ z. prefix_len p z) (drop-append-le s xs ys h) ∙ leading_halts (drop s xs) ys none in
      omega arith

  -- a front of all rows takes one more that passes
  pub leading_more : (xs : List X) (y : X) → prefix_len p xs ≡ length xs → p y ≡ true → prefix_len p (xs ++ y ∷ []) ≡ suc (length xs)
  leading_more xs y h e = grind (arith, nat_tests, h, e, prefix_len-append p xs (y ∷ []))

  -- a search that passes no row, and one that passes them all
  pub first_none : (xs : List X) → All (λ x. p x ≡ false) xs → (s : ℕ) → first_from p s xs ≡ min s (length xs)
  first_none xs none s = omega (arith, none_leads (drop s xs) (All-drop (λ x. p x ≡ false) s xs none))

  pub first_all : (xs : List X) → All (λ x. p x ≡ true) xs → (s : ℕ) → first_from p s xs ≡ length xs
  first_all xs all s = omega (arith, all_lead (drop s xs) (All-drop (λ x. p x ≡ true) s xs all), length-drop s xs)

-- a test that passes more has a front that is no shorter
pub leading_mono : {X : Type 0} (p q : X → Bool) (xs : List X) (d : X) → ((j : ℕ) → j < length xs → p (slice_index_or xs j d) ≡ true → q (slice_index_or xs j d) ≡ true) → prefix_len p xs ≤ prefix_len q xs
leading_mono p q [] d imp = omega arith
leading_mono p q (x ∷ xs) d imp =
    let ih = leading_mono p q xs d (λ j h. imp (suc j) (omega arith)) in
    let i = imp zero (omega arith) in
    grind (arith, ih, i)

-- and goes no less far from no earlier a row
module _ {X : Type 0} (a b : X → Bool) (sub : (x : X) → a x ≡ true → b x ≡ true) where
  later : (s e : ℕ) (xs : List X) → s ≤ e → s + prefix_len a (drop s xs) ≤ e + prefix_len b (drop e xs)
  later zero zero [] h = omega arith
  later zero zero (x ∷ xs) h = let ih = later zero zero xs in let i = sub x in grind (arith, ih, i)
  later zero (suc e) [] h = omega arith
  later zero (suc e) (x ∷ xs) h = let ih = later zero e xs in grind (arith, ih)
  later (suc s) zero xs h = absurd (omega arith)
  later (suc s) (suc e) [] h = omega arith
  later (suc s) (suc e) (x ∷ xs) h = let ih = later s e xs (omega arith) in omega arith

  pub first_later : (s e : ℕ) (xs : List X) → s ≤ e → first_from a s xs ≤ first_from b e xs
  first_later s e xs h = omega (arith, later s e xs h)
