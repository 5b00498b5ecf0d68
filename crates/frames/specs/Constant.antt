-- The constant frame: all rows (docs/RULES.md, section 5.4). Assumes nothing.
use Rattle.std.specs.Prelude.{true, false, length, Option}
use Rattle.bounds.specs.declared.sort.SortOptions.{SortOptions}
use Rattle.frames.specs.Rules.{Rule}

abbrev pub constant_rule : {O : Type 0} → Option SortOptions → Rule O
constant_rule order = record {
  order = order;
  from_first = true;
  constant = true;
  frame = λ P i p. record { start = 0; end = length P };
  causal = false;
  closed = λ P newest i. false;
  belongs = λ P i j. true;
  earliest = true;
}
