-- The order values that a lent column shows, row by row. Assumes nothing.
use Rattle.std.specs.Prelude.{List, map, replicate, Some, None, Option}
use Rattle.frames.specs.declared.order.OrderColumn.{OrderColumn}
use Rattle.frames.specs.declared.order.OrderColumn.TheVariants.{Values, Absent}

abbrev pub column : {O : Type 0} → OrderColumn O → List (Option O)
column (Values values) = map Some values.now
column (Absent rows) = replicate rows None
