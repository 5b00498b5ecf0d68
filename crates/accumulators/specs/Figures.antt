-- What an accumulator is: a rule over the numbers of its state, and their meaning over a list of optional values
-- (docs/RULES.md, section 4.1). Assumes nothing.
use Rattle.std.specs.Prelude.{◌≡◌, ℕ, All, zero, suc, ◌+◌, ◌<◌, ◌≤◌, List, [], ◌++◌, length, Some, None, Option, slice_index}
use Rattle.rows.specs.Rows.{non_null}

-- the most rows that an accumulator holds which does not keep them, and one which does
abbrev pub most_rows : ℕ
most_rows = 4096

abbrev pub most_kept : ℕ
most_kept = 64

-- The first number of every state is the rows held. Where no row is kept, the second tells how many are not missing, and the
-- third what is made of those.
abbrev pub rows_held : List ℕ → ℕ
rows_held s = slice_index s 0

abbrev pub present_held : List ℕ → ℕ
present_held s = slice_index s 1

abbrev pub third_held : List ℕ → ℕ
third_held s = slice_index s 2

abbrev pub missing_at_0 : {A : Type 0} → ℕ → A → Option A
missing_at_0 zero a = None
missing_at_0 (suc n) a = Some a

pub record Figure (V Answer : Type 0) : Type 0 where
  pub capacity : ℕ
  -- over a list: the answer, and the numbers of the state
  pub answer : List (Option V) → Option Answer
  pub state : List (Option V) → List ℕ
  -- over any numbers: the answer, and the state with a batch put behind
  pub answered : List ℕ → Option Answer
  pub updated : List ℕ → List (Option V) → List ℕ

-- what the numbers that stand for a list owe
pub record Lawful {V Answer : Type 0} (F : Figure V Answer) (Stands : List ℕ → List (Option V) → Type 0) : Type 0 where
  pub starts : Stands (F.state []) []
  pub grows : (s : List ℕ) (xs ys : List (Option V)) → Stands s xs → length xs + length ys ≤ F.capacity → Stands (F.updated s ys) (xs ++ ys)
  pub holds : (s : List ℕ) (xs : List (Option V)) → Stands s xs → rows_held s ≡ length xs
  pub within : (s : List ℕ) (xs : List (Option V)) → Stands s xs → length xs ≤ F.capacity
  pub tells : (s : List ℕ) (xs : List (Option V)) → Stands s xs → s ≡ F.state xs
  pub answers : (s : List ℕ) (xs : List (Option V)) → Stands s xs → F.answered s ≡ F.answer xs

-- dropping the list's oldest part leaves the rest, and dropping more than is held leaves nothing
pub record Retracting {V Answer : Type 0} (F : Figure V Answer) (Stands : List ℕ → List (Option V) → Type 0) (retracted : List ℕ → List (Option V) → List ℕ) : Type 0 where
  pub shrinks : (s : List ℕ) (xs ys : List (Option V)) → Stands s (xs ++ ys) → Stands (retracted s xs) ys
  pub empties : (s : List ℕ) (xs : List (Option V)) → rows_held s < length xs → retracted s xs ≡ F.state []

-- P holds of each value that is there
abbrev pub Each : {V : Type 0} → (V → Type 0) → List (Option V) → Type 0
Each P xs = All P (non_null xs)

-- Numbers stand for each list within the capacity that has this state.
abbrev pub Within : {V Answer : Type 0} → Figure V Answer → List ℕ → List (Option V) → Type 0
Within F s xs = (s ≡ F.state xs) × (length xs ≤ F.capacity)
