-- Places moved along the order, whichever way it runs. Assumes nothing.
use Rattle.std.specs.Prelude.{◌≡◌, ℕ, ◌<◌, Bool, true, false, cond, ℤ, pos, ◌+ℤ◌, ◌-ℤ◌, neg_ℤ, is_some, Some, None, Option, int_lt, refl}
use Rattle.std.proofs.Common.{ap, arith}
use Rattle.std.proofs.lemmas.Int.{ints}
use Rattle.std.proofs.lemmas.Bool.{false≢true}
use Rattle.bounds.specs.declared.sort.SortOptions.{SortOptions}
use Rattle.bounds.specs.Bounds.{runs_back}
use Rattle.bounds.specs.Orders.{sorts_before, precedes}
use Rattle.frames.specs.Standard.{moved}

abbrev along : Bool → ℤ → ℤ → ℤ
along t z by = cond t (z -ℤ by) (z +ℤ by)

turn' : (t : Bool) (z r x y : ℤ) → int_lt y x ≡ false → sorts_before t r (along t z x) ≡ true → sorts_before t (along t z y) r ≡ false
turn' true z r x y h k = grind (arith, ints)
turn' false z r x y h k = grind (arith, ints)

start_on' : (t : Bool) (z w r x : ℤ) → sorts_before t w z ≡ false → sorts_before t r (along t z x) ≡ true → sorts_before t r (along t w x) ≡ true
start_on' true z w r x h k = grind (arith, ints)
start_on' false z w r x h k = grind (arith, ints)

end_on' : (t : Bool) (z w r x : ℤ) → sorts_before t w z ≡ false → sorts_before t (along t w x) r ≡ true → sorts_before t (along t z x) r ≡ true
end_on' true z w r x h k = grind (arith, ints)
end_on' false z w r x h k = grind (arith, ints)

-- from one row, a bound that does not lie behind another has no target behind the other's
pub turn : (o : Option SortOptions) (x y z r : Option ℤ) → runs_back x y ≡ false → precedes o r (moved o x z) ≡ true → precedes o (moved o y z) r ≡ false
turn None x y z r h k = refl
turn (Some s) x None z r h k = refl
turn (Some s) x (Some y) None r h k = refl
turn (Some s) x (Some y) (Some z) None h k = refl
turn (Some s) None (Some y) (Some z) (Some r) h k = absurd (false≢true k)
turn (Some s) (Some x) (Some y) (Some z) (Some r) h k = turn' s.descending z r x y h k

-- from a later row, a target lies no earlier
pub start_on : (o : Option SortOptions) (x z w r : Option ℤ) → is_some w ≡ true → precedes o w z ≡ false → precedes o r (moved o x z) ≡ true → precedes o r (moved o x w) ≡ true
start_on None x z w r i h k = absurd (false≢true k)
start_on (Some s) x z None r i h k = absurd (false≢true i)
start_on (Some s) x z (Some w) None i h k = absurd (false≢true k)
start_on (Some s) None z (Some w) (Some r) i h k = absurd (false≢true k)
start_on (Some s) (Some x) None (Some w) (Some r) i h k = absurd (false≢true k)
start_on (Some s) (Some x) (Some z) (Some w) (Some r) i h k = start_on' s.descending z w r x h k

pub end_on : (o : Option SortOptions) (x z w r : Option ℤ) → is_some z ≡ true → precedes o w z ≡ false → precedes o (moved o x w) r ≡ true → precedes o (moved o x z) r ≡ true
end_on None x z w r i h k = absurd (false≢true k)
end_on (Some s) x None w r i h k = absurd (false≢true i)
end_on (Some s) None (Some z) w r i h k = absurd (false≢true k)
end_on (Some s) (Some x) (Some z) None r i h k = absurd (false≢true k)
end_on (Some s) (Some x) (Some z) (Some w) None i h k = absurd (false≢true k)
end_on (Some s) (Some x) (Some z) (Some w) (Some r) i h k = end_on' s.descending z w r x h k

-- a place moved by nothing, and one moved against the order
pub unmoved : (s : SortOptions) (z : Option ℤ) → moved (Some s) (Some (pos 0)) z ≡ z
unmoved s None = refl
unmoved s (Some z) = ap Some (same s.descending)
  where
    same : (t : Bool) → along t z (pos 0) ≡ z
    same true = omega (arith, ints)
    same false = omega (arith, ints)

pub moved_back : (s : SortOptions) (n : ℕ) (z : Option ℤ) → 0 < n → is_some z ≡ true → precedes (Some s) (moved (Some s) (Some (neg_ℤ (pos n))) z) z ≡ true
moved_back s n None h i = absurd (false≢true i)
moved_back s n (Some z) h i = back s.descending
  where
    back : (t : Bool) → sorts_before t (along t z (neg_ℤ (pos n))) z ≡ true
    back true = grind (arith, ints)
    back false = grind (arith, ints)
