-- SUM keeps the laws. Assumes nothing.
use Rattle.std.specs.Prelude.{◌≡◌, ◌+◌, ◌-◌, ◌*◌, ◌%◌, ◌^◌, ◌≤◌, List, [], ◌∷◌, ◌++◌, length, ℤ, pos, negsuc, ◌+ℤ◌, ◌-ℤ◌, neg_ℤ, Some, None, fold, Option, FitsSigned, refl}
use Rattle.std.proofs.Common.{sym, ap, ◌∙◌, arith, lt-ltb, of_z, to_z}
use Rattle.std.specs.Int.Signed.{mag}
use Rattle.std.specs.Int.{int_wrap, w32, w64}
use Rattle.std.proofs.lemmas.Int.{to_z-of_z, SFits-int_wrap, int_wrap_fits, int_wrap-add_left, int_wrap-add_right, int_wrap-sub_right, wrapping_add_is, wrapping_sub_is, ints}
use Rattle.std.proofs.lemmas.Bool.Decides.{nat_tests}
use Rattle.std.proofs.lemmas.List.Elements.{All-head, All-tail}
use Rattle.rows.specs.Rows.{non_null}
use Rattle.accumulators.specs.Sql.{null_if_none, total, sql_sum}
use Rattle.accumulators.specs.Figures.{most_rows, Lawful, Retracting, Within, Each, rows_held, missing_at_0}
use Rattle.accumulators.specs.Sums.{sum, sum_retracted, bits}
use Rattle.accumulators.specs.declared.sum.Total.{Total}
use Rattle.rows.proofs.Lists.{non_null-append}
use Rattle.accumulators.specs.Lists.{null_is}
use Rattle.accumulators.specs.Laws.{lawful_within, retracting_within}
use Rattle.accumulators.specs.CountsLemmas.{rows_more, present_more, rows_less, present_less, enough}

pub total-append : (xs ys : List ℤ) → total (xs ++ ys) ≡ total xs +ℤ total ys
total-append [] ys = omega (arith, ints)
total-append (x ∷ xs) ys = ap (λ t. x +ℤ t) (total-append xs ys) ∙ omega (arith, ints)

-- what a total gathers, modulo 2^64
pub gathered_total : (t : Total) (vs : List ℤ) → int_wrap w64 (fold (λ (a : Total) (v : ℤ). record { value = int_wrap w64 (a.value +ℤ v) }) t vs).value ≡ int_wrap w64 (t.value +ℤ total vs)
gathered_total t [] = ap (int_wrap w64) (omega (arith, ints))
gathered_total t (v ∷ vs) =
    gathered_total (record { value = int_wrap w64 (t.value +ℤ v) }) vs
    ∙ int_wrap-add_left w64 (t.value +ℤ v) (total vs)
    ∙ ap (int_wrap w64) (omega (arith, ints))

pub bits_0 : bits (pos 0) ≡ 0
unfolding int_wrap
bits_0 = refl

read_back : (z : ℤ) → to_z w64 (bits z) ≡ int_wrap w64 z
read_back z = to_z-of_z w64 (int_wrap w64 z) (SFits-int_wrap w64 z)

total_more : (xs ys : List (Option ℤ)) → bits (to_z w64 (bits (total (non_null xs))) +ℤ total (non_null ys)) ≡ bits (total (non_null (xs ++ ys)))
total_more xs ys = ap (of_z w64)
    (ap (λ z. int_wrap w64 (z +ℤ total (non_null ys))) (read_back (total (non_null xs)))
    ∙ int_wrap-add_left w64 (total (non_null xs)) (total (non_null ys))
    ∙ ap (int_wrap w64) (sym (ap total (non_null-append xs ys) ∙ total-append (non_null xs) (non_null ys))))

total_less : (xs ys : List (Option ℤ)) → bits (to_z w64 (bits (total (non_null (xs ++ ys)))) -ℤ total (non_null xs)) ≡ bits (total (non_null ys))
total_less xs ys =
    let t = total (non_null xs) in
    let joined : total (non_null (xs ++ ys)) ≡ t +ℤ total (non_null ys) = ap total (non_null-append xs ys) ∙ total-append (non_null xs) (non_null ys) in
    ap (of_z w64)
    (ap (λ z. int_wrap w64 (z -ℤ t)) (read_back (total (non_null (xs ++ ys))))
    ∙ int_wrap-add_left w64 (total (non_null (xs ++ ys))) (neg_ℤ t)
    ∙ ap (λ z. int_wrap w64 (z +ℤ neg_ℤ t)) joined
    ∙ ap (int_wrap w64) (omega (arith, ints)))

pub sum_lawful : Lawful sum (Within sum)
sum_lawful = lawful_within sum
    (λ xs ys h. let r = rows_more xs ys in let p = present_more xs ys h in let t = total_more xs ys in λ i. r i ∷ p i ∷ t i ∷ [])
    (λ xs. refl)
    (λ xs h. ap (missing_at_0 (length (non_null xs))) (read_back (total (non_null xs))) ∙ null_is (non_null xs) (int_wrap w64 (total (non_null xs))))

pub sum_retracting : Retracting sum (Within sum) sum_retracted
sum_retracting = retracting_within sum sum_retracted
    (λ xs ys h. rw (enough xs ys) (let r = rows_less xs ys in let p = present_less xs ys in let t = total_less xs ys in λ i. r i ∷ p i ∷ t i ∷ []))
    (λ s xs l. rw (lt-ltb (rows_held s) (length xs) l) (ap (λ z. 0 ∷ 0 ∷ z ∷ []) (sym bits_0)))

-- within the capacity the sum of wholes is exact
mag_add : (a b : ℤ) → mag (a +ℤ b) ≤ mag a + mag b + 1
mag_add (pos a) (pos b) = omega arith
mag_add (pos a) (negsuc b) = grind (arith, nat_tests)
mag_add (negsuc a) (pos b) = grind (arith, nat_tests)
mag_add (negsuc a) (negsuc b) = omega arith

few_small : (xs : List (Option ℤ)) → Each (FitsSigned w32) xs → mag (total (non_null xs)) ≤ length xs * 2 ^ 31
few_small [] e = omega arith
few_small (None ∷ xs) e = omega (arith, few_small xs e)
few_small (Some v ∷ xs) e =
    let first = All-head (FitsSigned w32) v (non_null xs) e in
    omega (arith, few_small xs (All-tail (FitsSigned w32) v (non_null xs) e), first.sfits, mag_add v (total (non_null xs)))

pub sum_exact : (xs : List (Option ℤ)) → length xs ≤ most_rows → Each (FitsSigned w32) xs → sum.answer xs ≡ sql_sum xs
sum_exact xs h e = ap (null_if_none (non_null xs)) (int_wrap_fits w64 (total (non_null xs)) (record { sfits = omega (arith, few_small xs e) }))

-- the totals of a batch added, and taken off
module _ (t : ℤ) (b : Total) (vs : List ℤ) (ft : FitsSigned w64 t) (fb : FitsSigned w64 b.value) (e : b ≡ fold (λ (a : Total) (v : ℤ). record { value = int_wrap w64 (a.value +ℤ v) }) (record { value = pos 0 }) vs) where
  batch_total : int_wrap w64 b.value ≡ int_wrap w64 (total vs)
  batch_total = ap (λ (a : Total). int_wrap w64 a.value) e ∙ gathered_total (record { value = pos 0 }) vs ∙ ap (int_wrap w64) (omega (arith, ints))

  pub total_added : of_z w64 (to_z w64 ((of_z w64 t + of_z w64 b.value) % 2 ^ 64)) ≡ bits (to_z w64 (of_z w64 t) +ℤ total vs)
  total_added = ap (of_z w64)
      (wrapping_add_is w64 t b.value ft fb
      ∙ sym (int_wrap-add_right w64 t b.value) ∙ ap (λ z. int_wrap w64 (t +ℤ z)) batch_total ∙ int_wrap-add_right w64 t (total vs)
      ∙ ap (λ z. int_wrap w64 (z +ℤ total vs)) (sym (to_z-of_z w64 t ft)))

  pub total_taken : of_z w64 (to_z w64 ((of_z w64 t + (2 ^ 64 - of_z w64 b.value)) % 2 ^ 64)) ≡ bits (to_z w64 (of_z w64 t) -ℤ total vs)
  total_taken = ap (of_z w64)
      (wrapping_sub_is w64 t b.value ft fb
      ∙ sym (int_wrap-sub_right w64 t b.value) ∙ ap (λ z. int_wrap w64 (t -ℤ z)) batch_total ∙ int_wrap-sub_right w64 t (total vs)
      ∙ ap (λ z. int_wrap w64 (z -ℤ total vs)) (sym (to_z-of_z w64 t ft)))
