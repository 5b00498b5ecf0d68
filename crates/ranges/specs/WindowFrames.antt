-- A frame in either unit. Assumes nothing.
use Rattle.ranges.specs.declared.window_frame.WindowFrame.{WindowFrame}
use Rattle.ranges.specs.declared.window_frame.WindowFrame.TheVariants.{Rows, Range}
use Rattle.ranges.specs.declared.window_frame.WindowFrameUnits as units
use Rattle.frames.specs.Rows.{rows_rule}
use Rattle.frames.specs.Rules.{Rule}
use Rattle.frames.specs.Mirrors.{Shape}

abbrev pub either_rule : {O R : Type 0} → (R → Rule O) → WindowFrame R → Rule O
either_rule range_rule (Rows f) = rows_rule f.order_by f.bounds.start f.bounds.end
either_rule range_rule (Range f) = range_rule f

abbrev pub units_of : {R : Type 0} → WindowFrame R → units.WindowFrameUnits
units_of (Rows f) = units.TheVariants.Rows
units_of (Range f) = units.TheVariants.Range

abbrev pub either_shape : {R : Type 0} → (R → Shape) → WindowFrame R → Shape
either_shape range_shape (Rows f) = record { start = f.bounds.start; end = f.bounds.end; order = f.order_by }
either_shape range_shape (Range f) = range_shape f
