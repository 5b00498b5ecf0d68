-- The rows of a partition, as columns show them. Assumes nothing.
use Rattle.std.specs.Prelude.{ℕ, zero, suc, Bool, cond, not, List, [], ◌∷◌, replicate, Some, None, Option, ◌==◌}
use Rattle.std.specs.Borrow.{Bor}

-- a row has an argument or misses it, and the filter keeps it or not
pub record Row (V : Type 0) : Type 0 where
  pub argument : Option V
  pub kept : Bool

-- in presence and mask 0 means no, any other byte yes
abbrev pub optional : {V : Type 0} → V → ℕ → Option V
optional v zero = None
optional v (suc b) = Some v

abbrev pub rows : {V : Type 0} → List V → List ℕ → List ℕ → List (Row V)
rows [] presence mask = []
rows (v ∷ values) [] mask = []
rows (v ∷ values) (p ∷ presence) [] = []
rows (v ∷ values) (p ∷ presence) (m ∷ mask) =
    record { argument = optional v p; kept = not (m == 0) } ∷ rows values presence mask

-- without a mask every row is kept
abbrev pub mask_bytes : Option (Bor (List ℕ)) → ℕ → List ℕ
mask_bytes None n = replicate n 1
mask_bytes (Some mask) n = mask.now

-- the arguments of the kept rows, oldest first
abbrev pub kept : {V : Type 0} → List (Row V) → List (Option V)
kept [] = []
kept (r ∷ rs) = cond r.kept (r.argument ∷ kept rs) (kept rs)

-- the values of a batch: null values, as SQL calls the missing ones, are eliminated
abbrev pub non_null : {V : Type 0} → List (Option V) → List V
non_null [] = []
non_null (None ∷ xs) = non_null xs
non_null (Some v ∷ xs) = v ∷ non_null xs
