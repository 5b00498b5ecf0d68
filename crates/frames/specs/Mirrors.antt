-- A frame where the rows come in reverse. Assumes nothing.
use Rattle.std.specs.Prelude.{Option}
use Rattle.std.specs.Option.{option_map}
use Rattle.bounds.specs.declared.sort.SortOptions.{SortOptions}
use Rattle.bounds.specs.declared.bound.WindowFrameBound.{WindowFrameBound}
use Rattle.bounds.specs.declared.bound.WindowFrameBound.TheVariants.{UnboundedPreceding, UnboundedFollowing}
use Rattle.bounds.specs.Bounds.{mirrored}
use Rattle.bounds.specs.Orders.{turned}

-- the bounds of a frame and its sort order
pub record Shape : Type 0 where
  pub start : WindowFrameBound
  pub end : WindowFrameBound
  pub order : Option SortOptions

-- the bounds change places, and what precedes follows; the order is turned round
abbrev pub mirror : Shape → Shape
mirror f = record { start = mirrored f.end; end = mirrored f.start; order = option_map turned f.order }

-- all rows
abbrev pub whole_shape : Option SortOptions → Shape
whole_shape order = record { start = UnboundedPreceding; end = UnboundedFollowing; order = order }
