-- SUM of floats keeps the laws. Assumes nothing.
use Rattle.std.specs.Prelude.{◌≡◌, false, T, List, [], ◌∷◌, ◌++◌, length, pos, fold, Option, refl, Float}
use Rattle.std.proofs.Common.{sym, ap, ◌∙◌}
use Rattle.std.specs.Float.{fin, binary64}
use Rattle.std.specs.Float.Ieee.{add, fits}
use Rattle.std.specs.Float.Ieee.Fits.{add-fits}
use Rattle.kinds.specs.Keys.{float_key, float_at}
use Rattle.kinds.specs.FloatKeys.{float_back}
use Rattle.std.proofs.lemmas.List.Sums.{fold-append}
use Rattle.rows.specs.Rows.{non_null}
use Rattle.accumulators.specs.Sql.{float_total}
use Rattle.accumulators.specs.Figures.{Lawful, Within, missing_at_0}
use Rattle.accumulators.specs.FloatSums.{float_sum}
use Rattle.accumulators.specs.declared.float_sum.Total.{Total}
use Rattle.rows.proofs.Lists.{non_null-append}
use Rattle.accumulators.specs.Lists.{null_is}
use Rattle.accumulators.specs.Laws.{lawful_within}
use Rattle.accumulators.specs.CountsLemmas.{rows_more, present_more}

zero_fits : T (fits binary64 (fin false 0 (pos 0)))
unfolding fits
zero_fits = tt

-- a total fits, and so comes back from its key
pub total_fits : (start : Float) (vs : List Float) → T (fits binary64 start) → T (fits binary64 (float_total start vs))
total_fits start [] h = h
total_fits start (v ∷ vs) h = total_fits (add binary64 start v) vs (add-fits binary64 start v)

-- what a total gathers
pub gathered_total : (t : Total) (vs : List Float) → (fold (λ (a : Total) (v : Float). record { value = add binary64 a.value v }) t vs).value ≡ float_total t.value vs
gathered_total t [] = refl
gathered_total t (v ∷ vs) = gathered_total (record { value = add binary64 t.value v }) vs

back : (vs : List Float) → float_at (float_key (float_total (fin false 0 (pos 0)) vs)) ≡ float_total (fin false 0 (pos 0)) vs
back vs = float_back (float_total (fin false 0 (pos 0)) vs) (total_fits (fin false 0 (pos 0)) vs zero_fits)

total_more : (xs ys : List (Option Float)) → float_key (float_total (float_at (float_key (float_total (fin false 0 (pos 0)) (non_null xs)))) (non_null ys)) ≡ float_key (float_total (fin false 0 (pos 0)) (non_null (xs ++ ys)))
total_more xs ys = ap float_key
    (ap (λ z. float_total z (non_null ys)) (back (non_null xs))
    ∙ sym (fold-append (add binary64) (fin false 0 (pos 0)) (non_null xs) (non_null ys))
    ∙ ap (float_total (fin false 0 (pos 0))) (sym (non_null-append xs ys)))

pub float_sum_lawful : Lawful float_sum (Within float_sum)
float_sum_lawful = lawful_within float_sum
    (λ xs ys h. let r = rows_more xs ys in let p = present_more xs ys h in let t = total_more xs ys in λ i. r i ∷ p i ∷ t i ∷ [])
    (λ xs. refl)
    (λ xs h. ap (missing_at_0 (length (non_null xs))) (back (non_null xs)) ∙ null_is (non_null xs) (float_total (fin false 0 (pos 0)) (non_null xs)))
