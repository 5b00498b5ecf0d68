-- Lists of optional values. Assumes nothing.
use Rattle.std.proofs.Common.{◌≡◌, ◌≤◌, List, [], ◌∷◌, ◌++◌, length, Some, None, Option, refl, ap, arith}
use Rattle.rows.specs.Rows.{non_null}

pub non_null-append : {V : Type 0} (xs ys : List (Option V)) → non_null (xs ++ ys) ≡ non_null xs ++ non_null ys
non_null-append [] ys = refl
non_null-append (None ∷ xs) ys = non_null-append xs ys
non_null-append (Some v ∷ xs) ys = ap (λ z. v ∷ z) (non_null-append xs ys)

pub present_few : {V : Type 0} (xs : List (Option V)) → length (non_null xs) ≤ length xs
present_few [] = omega arith
present_few (None ∷ xs) = omega (arith, present_few xs)
present_few (Some v ∷ xs) = omega (arith, present_few xs)
