-- Why a frame is ill-made: the first reason that applies (docs/RULES.md, section 5.5). Assumes nothing.
use Rattle.std.specs.Prelude.{ℕ, Bool, cond, not, ◌&&◌, ◌||◌, List, [], ◌∷◌, is_some, Some, None, Ok, Err, Option, Result}
use Rattle.bounds.specs.declared.reason.IllMade.{IllMade}
use Rattle.bounds.specs.declared.reason.IllMade.TheVariants.{StartUnboundedFollowing, EndUnboundedPreceding, StartBehindEnd, TooFar, DistanceWithoutOrder, PlainMovingStart}
use Rattle.bounds.specs.declared.bound.WindowFrameBound.{WindowFrameBound}
use Rattle.bounds.specs.Bounds.{behind, beyond, distant, is_unbounded_preceding, is_unbounded_following}

abbrev pub number : IllMade → ℕ
number StartUnboundedFollowing = 1
number EndUnboundedPreceding = 2
number StartBehindEnd = 3
number TooFar = 4
number DistanceWithoutOrder = 5
number PlainMovingStart = 6

-- the number that a call refuses with
abbrev pub reason_of : {A : Type 0} → Result A IllMade → Option ℕ
reason_of (Ok a) = None
reason_of (Err e) = Some (number e)

abbrev pub first_reason : List (Bool × ℕ) → Option ℕ
first_reason [] = None
first_reason (r ∷ rs) = cond r.0 (Some r.1) (first_reason rs)

abbrev pub bound_reasons : ℕ → WindowFrameBound → WindowFrameBound → List (Bool × ℕ)
bound_reasons most start end =
    (is_unbounded_following start, 1)
    ∷ (is_unbounded_preceding end, 2)
    ∷ (behind start end, 3)
    ∷ (beyond most start || beyond most end, 4)
    ∷ []

-- a distance needs order values
abbrev pub order_reasons : {S : Type 0} → Option S → WindowFrameBound → WindowFrameBound → List (Bool × ℕ)
order_reasons order start end = ((distant start || distant end) && not (is_some order), 5) ∷ []
