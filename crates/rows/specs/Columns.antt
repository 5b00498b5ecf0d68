-- The rows that lent columns show. Assumes nothing.
use Rattle.std.specs.Prelude.{◌≡◌, List, length}
use Rattle.rows.specs.Rows.{Row, rows, mask_bytes}
use Rattle.rows.specs.declared.arguments.Arguments.TheInside.{Inside}

abbrev pub rows_of : {V : Type 0} → Inside V → List (Row V)
rows_of a = rows a.values.now a.presence.now (mask_bytes a.mask (length a.values.now))

-- the columns have one length
abbrev pub Aligned : {V : Type 0} → Inside V → Type 0
Aligned a = (length a.presence.now ≡ length a.values.now) × (length (mask_bytes a.mask (length a.values.now)) ≡ length a.values.now)
