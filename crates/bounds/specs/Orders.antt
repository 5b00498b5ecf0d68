-- The order of rows (docs/RULES.md, section 5.2). Assumes nothing.
use Rattle.std.specs.Prelude.{◌≡◌, ℕ, All, ◌-◌, Bool, true, false, not, List, [], ◌∷◌, length, ℤ, is_some, Some, None, Option, int_lt, slice_index_or}
use Rattle.std.proofs.Math.IntN.{sub_ℕ}
use Rattle.std.specs.Option.{option_map}
use Rattle.bounds.specs.declared.sort.SortOptions.{SortOptions}

abbrev pub turned : SortOptions → SortOptions
turned s = record { descending = not s.descending }

-- a sorts before b: it is less, or greater where the order descends
abbrev pub sorts_before : Bool → ℤ → ℤ → Bool
sorts_before false a b = int_lt a b
sorts_before true a b = int_lt b a

-- without an order, or without a value, no row sorts before another: they are peers
abbrev pub precedes : Option SortOptions → Option ℤ → Option ℤ → Bool
precedes None a b = false
precedes (Some s) None b = false
precedes (Some s) (Some a) None = false
precedes (Some s) (Some a) (Some b) = sorts_before s.descending a b

-- the order value of row i; none past the last row
abbrev pub at : {O : Type 0} → List (Option O) → ℕ → Option O
at P i = slice_index_or P i None

abbrev pub last : {O : Type 0} → List (Option O) → Option O
last P = at P (length P - 1)

module _ {O : Type 0} (keyed : O → ℕ) where
  -- the place of a value is its key, less a number fixed for the kind
  abbrev pub place : ℕ → Option O → Option ℤ
  place base v = option_map (λ x. sub_ℕ (keyed x) base) v

  -- values order as their keys
  abbrev pub before : Option SortOptions → Option O → Option O → Bool
  before order v w = precedes order (place 0 v) (place 0 w)

  -- a most recent row is shown, and sorts strictly behind the last row
  abbrev pub row_ahead : Option SortOptions → List (Option O) → Option O → Bool
  row_ahead order P newest = before order (last P) newest

  -- no row sorts before this one
  abbrev pub NoneBefore : Option SortOptions → Option O → List (Option O) → Type 0
  NoneBefore order v rows = All (λ w. before order w v ≡ false) rows

  abbrev pub Rising : Option SortOptions → List (Option O) → Type 0
  Rising order [] = Unit {0}
  Rising order (v ∷ rows) = NoneBefore order v rows × Rising order rows

  -- a column in order: where there is one, each row has an order value, and no row sorts before an earlier one
  abbrev pub InOrder : Option SortOptions → List (Option O) → Type 0
  InOrder None rows = Unit {0}
  InOrder (Some s) rows = All (λ v. is_some v ≡ true) rows × Rising (Some s) rows
