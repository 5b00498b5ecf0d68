-- MIN and MAX keep the laws, and are the standard's. Assumes nothing.
use Rattle.std.specs.Prelude.{◌≡◌, ℕ, All, Contains, zero, suc, ◌+◌, Bool, true, false, cond, ltb, List, [], ◌∷◌, ◌++◌, map, length, Some, None, fold, Option, nat_lt, refl}
use Rattle.std.proofs.Common.{sym, ap, subst, ◌∙◌, arith}
use Rattle.std.specs.Option.{option_map}
use Rattle.std.proofs.lemmas.List.{map-append}
use Rattle.std.proofs.lemmas.List.Elements.{All-nil, All-cons, All-head, All-tail, All-contains, Contains-append_right}
use Rattle.std.proofs.lemmas.Bool.Decides.{nat_tests}
use Rattle.std.proofs.lemmas.List.Sums.{fold-append}
use Rattle.rows.specs.Rows.{non_null}
use Rattle.accumulators.specs.Sql.{ahead, IsMinOrMax}
use Rattle.accumulators.specs.Figures.{Lawful, Within, Each}
use Rattle.accumulators.specs.Extremes.{better, best, best_value, extreme, extreme_state, best_held}
use Rattle.accumulators.specs.declared.extreme.Best.{Best}
use Rattle.rows.proofs.Lists.{non_null-append}
use Rattle.accumulators.specs.Laws.{lawful_within}
use Rattle.accumulators.specs.CountsLemmas.{rows_more}

pub held_best : (n : ℕ) (b : Option ℕ) → best_held (extreme_state n b) ≡ b
held_best n None = refl
held_best n (Some k) = refl

-- what is gathered has the best key
pub gathered_best : {V D : Type 0} (greatest : Bool) (keyed : V → ℕ) (b : Best D) (vs : List V)
    → (fold (λ (a : Best D) (v : V). record { key = better greatest a.key (keyed v); direction = a.direction }) b vs).key ≡ best greatest b.key (map keyed vs)
gathered_best greatest keyed b [] = refl
gathered_best greatest keyed b (v ∷ vs) = gathered_best greatest keyed (record { key = better greatest b.key (keyed v); direction = b.direction }) vs

module _ {V : Type 0} (greatest : Bool) (keyed : V → ℕ) (valued : ℕ → V) where
  best_more : (xs ys : List (Option V)) → best greatest (best greatest None (map keyed (non_null xs))) (map keyed (non_null ys)) ≡ best greatest None (map keyed (non_null (xs ++ ys)))
  best_more xs ys =
      sym (fold-append (better greatest) None (map keyed (non_null xs)) (map keyed (non_null ys)))
      ∙ ap (best greatest None) (sym (map-append keyed (non_null xs) (non_null ys)))
      ∙ ap (λ vs. best greatest None (map keyed vs)) (sym (non_null-append xs ys))

  pub extreme_lawful : Lawful (extreme greatest keyed valued) (Within (extreme greatest keyed valued))
  extreme_lawful = lawful_within (extreme greatest keyed valued)
      (λ xs ys h.
      ap (λ b. extreme_state (length xs + length ys) (best greatest b (map keyed (non_null ys)))) (held_best (length xs) (best greatest None (map keyed (non_null xs))))
      ∙ ap (extreme_state (length xs + length ys)) (best_more xs ys)
      ∙ ap (λ n. extreme_state n (best greatest None (map keyed (non_null (xs ++ ys))))) (rows_more xs ys))
      (λ xs. refl)
      (λ xs h. ap (option_map valued) (held_best (length xs) (best greatest None (map keyed (non_null xs)))))

-- no key is ahead of itself, and what is not ahead of one that is not ahead of a third is not ahead of that either
level : (greatest : Bool) (a : ℕ) → ahead greatest ltb a a ≡ false
level true a = grind (arith, nat_tests)
level false a = grind (arith, nat_tests)

behind : (greatest : Bool) (a b c : ℕ) → ahead greatest ltb a b ≡ false → ahead greatest ltb b c ≡ false → ahead greatest ltb a c ≡ false
behind true a b c h k = grind (arith, nat_tests)
behind false a b c h k = grind (arith, nat_tests)

overtaken : (greatest : Bool) (a b c : ℕ) → ahead greatest ltb b a ≡ true → ahead greatest ltb b c ≡ false → ahead greatest ltb a c ≡ false
overtaken true a b c h k = grind (arith, nat_tests)
overtaken false a b c h k = grind (arith, nat_tests)

module _ {V : Type 0} (greatest : Bool) (keyed : V → ℕ) where
  -- one of the values has the best key, and no other is ahead of it
  abbrev Won : V → List V → Type 0
  Won v vs = (w : V) × (best greatest (Some (keyed v)) (map keyed vs) ≡ Some (keyed w)) × Contains (v ∷ vs) w × All (λ u. ahead greatest ltb (keyed u) (keyed w) ≡ false) (v ∷ vs)

  skip : (v x w : V) (xs : List V) → Contains (v ∷ xs) w → Contains (v ∷ x ∷ xs) w
  skip v x w xs (zero, h, e) = (0, omega arith, e)
  skip v x w xs (suc k, h, e) = (suc (suc k), omega arith, e)

  -- none of v and xs is ahead of w, and x is not ahead of v
  beside : (v x : V) (xs : List V) (w : V) → ahead greatest ltb (keyed x) (keyed v) ≡ false → All (λ u. ahead greatest ltb (keyed u) (keyed w) ≡ false) (v ∷ xs) → All (λ u. ahead greatest ltb (keyed u) (keyed w) ≡ false) (v ∷ x ∷ xs)
  beside v x xs w e h =
      let P : V → Type 0 = λ u. ahead greatest ltb (keyed u) (keyed w) ≡ false in
      let first = All-head P v xs h in
      All-cons P v (x ∷ xs) first (All-cons P x xs (behind greatest (keyed x) (keyed v) (keyed w) e first) (All-tail P v xs h))

  -- x is put to the test against v, which was best so far
  step : (v x : V) (xs : List V) (b : Bool) → ahead greatest ltb (keyed x) (keyed v) ≡ b → Won x xs → Won v xs → Won v (x ∷ xs)
  step v x xs true e r r' = (
    r.0,
    ap (λ b. best greatest (Some (cond b (keyed x) (keyed v))) (map keyed xs)) e ∙ r.1,
    Contains-append_right (v ∷ []) (x ∷ xs) r.0 r.2,
    All-cons (λ u. ahead greatest ltb (keyed u) (keyed r.0) ≡ false) v (x ∷ xs) (overtaken greatest (keyed v) (keyed x) (keyed r.0) e (All-head (λ u. ahead greatest ltb (keyed u) (keyed r.0) ≡ false) x xs r.3)) r.3,
  )
  step v x xs false e r' r = (
    r.0,
    ap (λ b. best greatest (Some (cond b (keyed x) (keyed v))) (map keyed xs)) e ∙ r.1,
    skip v x r.0 xs r.2,
    beside v x xs r.0 e r.3,
  )

  won : (v : V) (vs : List V) → Won v vs
  won v [] = (v, refl, (0, omega arith, refl), All-cons (λ u. ahead greatest ltb (keyed u) (keyed v) ≡ false) v [] (level greatest (keyed v)) (All-nil (λ u. ahead greatest ltb (keyed u) (keyed v) ≡ false)))
  won v (x ∷ xs) = step v x xs (ahead greatest ltb (keyed x) (keyed v)) refl (won x xs) (won v xs)

module _ {V : Type 0} (greatest : Bool) (fits : V → Type 0) (before : V → V → Bool) (keyed : V → ℕ) (valued : ℕ → V)
    (restored : (v : V) → fits v → valued (keyed v) ≡ v) (ordered : (v w : V) → fits v → fits w → before v w ≡ nat_lt (keyed v) (keyed w)) where
  none_ahead : (w : V) (vs : List V) → fits w → All fits vs → All (λ u. ahead greatest ltb (keyed u) (keyed w) ≡ false) vs → All (λ u. ahead greatest before u w ≡ false) vs
  none_ahead w vs f h k i d l = turned greatest (h i d l) (k i d l)
    where
      turned : (g : Bool) {u : V} → fits u → ahead g ltb (keyed u) (keyed w) ≡ false → ahead g before u w ≡ false
      turned true {u} p e = ordered w u f p ∙ e
      turned false {u} p e = ordered u w p f ∙ e

  standard : (vs : List V) → All fits vs → IsMinOrMax greatest before vs (option_map valued (best greatest None (map keyed vs)))
  standard [] h = refl
  standard (v ∷ vs) h =
      let r = won greatest keyed v vs in
      let f = All-contains fits (v ∷ vs) r.0 h r.2 in
      subst (λ (o : Option V). IsMinOrMax greatest before (v ∷ vs) o) (sym (ap (option_map valued) r.1 ∙ ap Some (restored r.0 f)))
      (r.2, none_ahead r.0 (v ∷ vs) f h r.3)

  pub extreme_standard : (xs : List (Option V)) → Each fits xs → IsMinOrMax greatest before (non_null xs) (best_value greatest keyed valued xs)
  extreme_standard xs e = standard (non_null xs) e
