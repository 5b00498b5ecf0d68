-- Lists of optional values. Assumes nothing.
use Rattle.std.specs.Prelude.{◌≡◌, ◌+◌, List, [], ◌∷◌, ◌++◌, length, Option, refl}
use Rattle.std.proofs.Common.{ap, ◌∙◌, length-append}
use Rattle.rows.specs.Rows.{non_null}
use Rattle.rows.proofs.Lists.{non_null-append}
use Rattle.accumulators.specs.Sql.{null_if_none}
use Rattle.accumulators.specs.Figures.{missing_at_0}

pub length-non_null-append : {V : Type 0} (xs ys : List (Option V)) → length (non_null (xs ++ ys)) ≡ length (non_null xs) + length (non_null ys)
length-non_null-append xs ys = ap length (non_null-append xs ys) ∙ length-append (non_null xs) (non_null ys)

pub null_is : {V A : Type 0} (vs : List V) (a : A) → missing_at_0 (length vs) a ≡ null_if_none vs a
null_is [] a = refl
null_is (v ∷ vs) a = refl
