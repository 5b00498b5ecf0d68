-- Set functions over the values of a group, as ISO/IEC 9075-2:2003 has them: null values are eliminated first
-- (docs/RULES.md, section 4.2). Assumes nothing.
use Rattle.std.specs.Prelude.{◌≡◌, ℕ, All, Contains, Bool, true, false, List, [], ◌∷◌, length, ℤ, pos, ◌+ℤ◌, Some, None, fold, Option, Float}
use Rattle.std.specs.Float.{fin, binary64}
use Rattle.std.specs.Float.Ieee.{add}
use Rattle.rows.specs.Rows.{non_null}

-- COUNT is the number of values.
abbrev pub sql_count : {V : Type 0} → List (Option V) → Option ℕ
sql_count xs = Some (length (non_null xs))

-- The other functions are null where no value is left.
abbrev pub null_if_none : {V A : Type 0} → List V → A → Option A
null_if_none [] a = None
null_if_none (v ∷ vs) a = Some a

-- SUM is the sum of the values.
abbrev pub total : List ℤ → ℤ
total [] = pos 0
total (v ∷ vs) = v +ℤ total vs

abbrev pub sql_sum : List (Option ℤ) → Option ℤ
sql_sum xs = null_if_none (non_null xs) (total (non_null xs))

-- SUM of floats rounds each sum, which the standard leaves to the implementation: from 0.0, oldest value first.
abbrev pub float_total : Float → List Float → Float
float_total start vs = fold (add binary64) start vs

abbrev pub sql_float_sum : List (Option Float) → Option Float
sql_float_sum xs = null_if_none (non_null xs) (float_total (fin false 0 (pos 0)) (non_null xs))

-- Whether v comes first, from the least value on or from the greatest.
abbrev pub ahead : {V : Type 0} → Bool → (V → V → Bool) → V → V → Bool
ahead false before v w = before v w
ahead true before v w = before w v

-- MIN is one of the values, and none comes before it; MAX is one of them too, and comes before none.
abbrev pub IsMinOrMax : {V : Type 0} → Bool → (V → V → Bool) → List V → Option V → Type 0
IsMinOrMax greatest before vs None = vs ≡ []
IsMinOrMax greatest before vs (Some v) = Contains vs v × All (λ w. ahead greatest before w v ≡ false) vs
