-- The order of places, whichever way it runs. Assumes nothing.
use Rattle.std.proofs.Common.{◌≡◌, ℕ, Bool, true, false, ℤ, is_some, Some, None, Option, refl, arith}
use Rattle.std.proofs.Math.IntN.{sub_ℕ}
use Rattle.std.proofs.lemmas.Bool.{false≢true}
use Rattle.std.proofs.lemmas.Int.{ints}
use Rattle.bounds.specs.declared.sort.SortOptions.{SortOptions}
use Rattle.bounds.specs.Orders.{sorts_before, precedes, place, before}

-- ---- places
level : (t : Bool) (a : ℤ) → sorts_before t a a ≡ false
level true a = grind (arith, ints)
level false a = grind (arith, ints)

not_after' : (t : Bool) (a b c : ℤ) → sorts_before t a b ≡ true → sorts_before t a c ≡ false → sorts_before t b c ≡ false
not_after' true a b c h k = grind (arith, ints)
not_after' false a b c h k = grind (arith, ints)

lower' : (t : Bool) (a b c : ℤ) → sorts_before t b a ≡ false → sorts_before t b c ≡ true → sorts_before t a c ≡ true
lower' true a b c h k = grind (arith, ints)
lower' false a b c h k = grind (arith, ints)

upper' : (t : Bool) (a b c : ℤ) → sorts_before t c a ≡ true → sorts_before t b a ≡ false → sorts_before t c b ≡ true
upper' true a b c h k = grind (arith, ints)
upper' false a b c h k = grind (arith, ints)

-- ---- optional places
pub peers_of_itself : (o : Option SortOptions) (a : Option ℤ) → precedes o a a ≡ false
peers_of_itself None a = refl
peers_of_itself (Some s) None = refl
peers_of_itself (Some s) (Some a) = level s.descending a

-- a before b, and c not behind a
pub not_after : (o : Option SortOptions) (a b c : Option ℤ) → precedes o a b ≡ true → precedes o a c ≡ false → precedes o b c ≡ false
not_after None a b c h k = refl
not_after (Some s) a None c h k = refl
not_after (Some s) a (Some b) None h k = refl
not_after (Some s) None (Some b) (Some c) h k = absurd (false≢true h)
not_after (Some s) (Some a) (Some b) (Some c) h k = not_after' s.descending a b c h k

-- a not behind b, and b before c
pub lower : (o : Option SortOptions) (a b c : Option ℤ) → is_some a ≡ true → precedes o b a ≡ false → precedes o b c ≡ true → precedes o a c ≡ true
lower None a b c x h k = absurd (false≢true k)
lower (Some s) None b c x h k = absurd (false≢true x)
lower (Some s) (Some a) None c x h k = absurd (false≢true k)
lower (Some s) (Some a) (Some b) None x h k = absurd (false≢true k)
lower (Some s) (Some a) (Some b) (Some c) x h k = lower' s.descending a b c h k

-- c before a, and a not behind b
pub upper : (o : Option SortOptions) (a b c : Option ℤ) → is_some b ≡ true → precedes o c a ≡ true → precedes o b a ≡ false → precedes o c b ≡ true
upper None a b c x h k = absurd (false≢true h)
upper (Some s) a None c x h k = absurd (false≢true x)
upper (Some s) a (Some b) None x h k = absurd (false≢true h)
upper (Some s) None (Some b) (Some c) x h k = absurd (false≢true h)
upper (Some s) (Some a) (Some b) (Some c) x h k = upper' s.descending a b c h k

-- ---- places of values: which number the kind takes off does not matter
module _ {O : Type 0} (keyed : O → ℕ) (base : ℕ) where
  shifted : (t : Bool) (k m : ℕ) → sorts_before t (sub_ℕ k base) (sub_ℕ m base) ≡ sorts_before t (sub_ℕ k 0) (sub_ℕ m 0)
  shifted true k m = grind (arith, ints)
  shifted false k m = grind (arith, ints)

  pub by_place : (o : Option SortOptions) (v w : Option O) → precedes o (place keyed base v) (place keyed base w) ≡ before keyed o v w
  by_place None v w = refl
  by_place (Some s) None w = refl
  by_place (Some s) (Some v) None = refl
  by_place (Some s) (Some v) (Some w) = shifted s.descending (keyed v) (keyed w)

  pub placed : (v : Option O) → is_some v ≡ true → is_some (place keyed base v) ≡ true
  placed None h = h
  placed (Some v) h = refl
