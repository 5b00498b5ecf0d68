-- COUNT keeps the laws. Assumes nothing.
use Rattle.std.specs.Prelude.{◌≡◌, ◌+◌, ◌-◌, ◌%◌, ◌^◌, ◌≤◌, false, List, [], ◌∷◌, ◌++◌, length, Option, nat_lt, refl}
use Rattle.std.proofs.Common.{sym, arith, lt-ltb, le-ltb, length-append}
use Rattle.rows.specs.Rows.{non_null}
use Rattle.accumulators.specs.Figures.{most_rows, Lawful, Retracting, Within, rows_held}
use Rattle.accumulators.specs.Counts.{count, count_retracted}
use Rattle.rows.proofs.Lists.{present_few}
use Rattle.accumulators.specs.Lists.{length-non_null-append}
use Rattle.accumulators.specs.Laws.{lawful_within, retracting_within}

-- rows and those not missing, with a batch behind
pub rows_more : {V : Type 0} (xs ys : List (Option V)) → length xs + length ys ≡ length (xs ++ ys)
rows_more xs ys = sym (length-append xs ys)

pub present_more : {V : Type 0} (xs ys : List (Option V)) → length xs + length ys ≤ most_rows → (length (non_null xs) + length (non_null ys)) % 2 ^ 64 ≡ length (non_null (xs ++ ys))
present_more xs ys h = omega (arith, length-non_null-append xs ys, present_few xs, present_few ys)

-- and with their oldest part dropped
pub rows_less : {V : Type 0} (xs ys : List (Option V)) → length (xs ++ ys) - length xs ≡ length ys
rows_less xs ys = omega (arith, length-append xs ys)

pub present_less : {V : Type 0} (xs ys : List (Option V)) → length (non_null (xs ++ ys)) - length (non_null xs) ≡ length (non_null ys)
present_less xs ys = omega (arith, length-non_null-append xs ys)

pub enough : {V : Type 0} (xs ys : List (Option V)) → nat_lt (length (xs ++ ys)) (length xs) ≡ false
enough xs ys = le-ltb (length (xs ++ ys)) (length xs) (omega (arith, length-append xs ys))

pub count_lawful : (V : Type 0) → Lawful (count V) (Within (count V))
count_lawful V = lawful_within (count V)
    (λ xs ys h. let r = rows_more xs ys in let p = present_more xs ys h in λ i. r i ∷ p i ∷ [])
    (λ xs. refl)
    (λ xs h. refl)

pub count_retracting : (V : Type 0) → Retracting (count V) (Within (count V)) count_retracted
count_retracting V = retracting_within (count V) count_retracted
    (λ xs ys h. rw (enough xs ys) (let r = rows_less xs ys in let p = present_less xs ys in λ i. r i ∷ p i ∷ []))
    (λ s xs l. rw (lt-ltb (rows_held s) (length xs) l))
