-- Bounds that lead nowhere: no row is removed. Assumes nothing.
use Rattle.std.specs.Prelude.{◌≡◌, ℕ, min, false, cond, not, List, length, ℤ, Some, None, Option, slice_index_or, refl}
use Rattle.std.proofs.Common.{sym, ap, ◌∙◌}
use Rattle.std.proofs.lemmas.Bool.{cond-false}
use Rattle.bounds.specs.declared.sort.SortOptions.{SortOptions}
use Rattle.bounds.specs.declared.bound.WindowFrameBound.{WindowFrameBound}
use Rattle.bounds.specs.Bounds.{offset, unbounded}
use Rattle.bounds.specs.Orders.{precedes, place}
use Rattle.frames.specs.Standard.{moved, target, start_excludes, end_excludes}
use Rattle.ranges.specs.Scans.{first_from}
use Rattle.ranges.specs.Fronts.{first_none, first_all}

pub none_behind_none : (o : Option SortOptions) (a : Option ℤ) → precedes o a None ≡ false
none_behind_none None a = refl
none_behind_none (Some s) None = refl
none_behind_none (Some s) (Some a) = refl

pub none_before_none : (o : Option SortOptions) (a : Option ℤ) → precedes o None a ≡ false
none_before_none None a = refl
none_before_none (Some s) a = refl

from_nowhere : (o : Option SortOptions) (by : Option ℤ) → moved o by None ≡ None
from_nowhere None by = refl
from_nowhere (Some s) None = refl
from_nowhere (Some s) (Some z) = refl

by_nothing : (o : Option SortOptions) (z : Option ℤ) → moved o None z ≡ None
by_nothing None z = refl
by_nothing (Some s) z = refl

module _ {O : Type 0} (keyed : O → ℕ) (base : ℕ) (o : Option SortOptions) (b : WindowFrameBound) where
  -- from a row without an order value, or where the bound is UNBOUNDED
  pub no_value : (v : Option O) → v ≡ None → target keyed base o b v ≡ None
  no_value v e = ap (λ w. moved o (offset b) (place keyed base w)) e ∙ from_nowhere o (offset b)

  pub no_bound : (v : Option O) → offset b ≡ None → target keyed base o b v ≡ None
  no_bound v e = ap (λ by. moved o by (place keyed base v)) e ∙ by_nothing o (place keyed base v)

  module _ (v : Option O) (nowhere : target keyed base o b v ≡ None) where
    pub start_keeps : (w : Option O) → start_excludes keyed base o b v w ≡ false
    start_keeps w = ap (λ t. precedes o (place keyed base w) t) nowhere ∙ none_behind_none o (place keyed base w)

    pub end_keeps : (w : Option O) → end_excludes keyed base o b v w ≡ false
    end_keeps w = ap (λ t. precedes o t (place keyed base w)) nowhere ∙ none_before_none o (place keyed base w)

    pub start_unaimed : (P : List (Option O)) (s : ℕ) → first_from (start_excludes keyed base o b v) s P ≡ min s (length P)
    start_unaimed P s = first_none (start_excludes keyed base o b v) P (λ k d l. start_keeps (slice_index_or P k d)) s

    pub end_unaimed : (P : List (Option O)) (s : ℕ) → first_from (λ w. not (end_excludes keyed base o b v w)) s P ≡ length P
    end_unaimed P s = first_all (λ w. not (end_excludes keyed base o b v w)) P (λ k d l. ap not (end_keeps (slice_index_or P k d))) s

  -- the same, as a row that there is not asks it
  module _ (v : Option O) (missing : v ≡ None) (P : List (Option O)) (s : ℕ) where
    pub start_missing : unbounded b ≡ false → min s (length P) ≡ cond (unbounded b) 0 (first_from (start_excludes keyed base o b v) s P)
    start_missing e = sym (cond-false (unbounded b) 0 (first_from (start_excludes keyed base o b v) s P) e ∙ start_unaimed v (no_value v missing) P s)

    pub end_missing : length P ≡ first_from (λ w. not (end_excludes keyed base o b v w)) s P
    end_missing = sym (end_unaimed v (no_value v missing) P s)
