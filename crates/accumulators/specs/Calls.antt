-- What the calls of an accumulator return and leave. Assumes nothing.
use Rattle.std.specs.Prelude.{◌≡◌, ℕ, ◌+◌, ◌<◌, ◌≤◌, List, [], ◌∷◌, ◌++◌, length, drop, Ok, Err, fold, Option, Result}
use Rattle.accumulators.specs.Figures.{Figure, Each, rows_held}
use Rattle.accumulators.specs.declared.refusals.Full.{Full}
use Rattle.accumulators.specs.declared.refusals.Short.{Short}

-- rows held and offered together, or refused where they pass the capacity
abbrev pub HasRoom : ℕ → ℕ → ℕ → Result ℕ Full → Type 0
HasRoom held offered capacity (Ok n) = (n ≡ held + offered) × (n ≤ capacity)
HasRoom held offered capacity (Err e) = (capacity < held + offered) × (e.held ≡ held) × (e.offered ≡ offered)

-- a batch is taken, or refused with the rows held and offered, exactly where they would pass the capacity
abbrev pub Updates : {V Answer A : Type 0} → Figure V Answer → (A → List ℕ) → A → A → List (Option V) → Result (Unit {0}) Full → Type 0
Updates F numbers a a' ys (Ok u) = (rows_held (numbers a) + length ys ≤ F.capacity) × (numbers a' ≡ F.updated (numbers a) ys)
Updates F numbers a a' ys (Err e) = (F.capacity < rows_held (numbers a) + length ys) × (a' ≡ a) × (e.held ≡ rows_held (numbers a)) × (e.offered ≡ length ys)

-- the numbers in front and the rest as it was; or nothing, and how many are needed
abbrev pub Writes : List ℕ → List ℕ → List ℕ → Result ℕ Short → Type 0
Writes ns out out' (Ok n) = (n ≡ length ns) × (length ns ≤ length out) × (out' ≡ ns ++ drop (length ns) out)
Writes ns out out' (Err e) = (length out < length ns) × (e.needed ≡ length ns) × (out' ≡ out)

-- a whole group: the answer over it, the standard's for values that their kind can hold; refused where it passes the capacity
abbrev pub Aggregates : {V Answer : Type 0} → Figure V Answer → (V → Type 0) → (List (Option V) → Option Answer → Type 0) → List (Option V) → Result (Option Answer) Full → Type 0
Aggregates F fits standard xs (Ok r) = (length xs ≤ F.capacity) × (r ≡ F.answer xs) × (Each fits xs → standard xs r)
Aggregates F fits standard xs (Err e) = (F.capacity < length xs) × (e.held ≡ 0) × (e.offered ≡ length xs)

abbrev pub joined : {A : Type 0} → List (List A) → List A
joined [] = []
joined (b ∷ bs) = b ++ joined bs

-- batches that are taken one after the other come to the answer over all their rows
abbrev pub AnyCut : {V Answer : Type 0} → Figure V Answer → Type 0
AnyCut {V} F = (batches : List (List (Option V))) → length (joined batches) ≤ F.capacity
    → F.answered (fold F.updated (F.state []) batches) ≡ F.answer (joined batches)

-- one batch in and one out: by the numbers, and over the lists that they stand for
abbrev pub Slides : {V Answer A : Type 0} → Figure V Answer → (List ℕ → List (Option V) → Type 0) → (List ℕ → List (Option V) → List ℕ) → (A → List ℕ) → A → A → List (Option V) → List (Option V) → Result (Option Answer) Full → Type 0
Slides {V} F Stands retracted numbers a a' entering leaving (Ok r) =
    (rows_held (numbers a) + length entering ≤ F.capacity)
    × (numbers a' ≡ retracted (F.updated (numbers a) entering) leaving)
    × (r ≡ F.answered (numbers a'))
    × ((held rest : List (Option V)) → Stands (numbers a) held → held ++ entering ≡ leaving ++ rest → Stands (numbers a') rest × (r ≡ F.answer rest))
Slides F Stands retracted numbers a a' entering leaving (Err e) =
    (F.capacity < rows_held (numbers a) + length entering) × (a' ≡ a) × (e.held ≡ rows_held (numbers a)) × (e.offered ≡ length entering)
