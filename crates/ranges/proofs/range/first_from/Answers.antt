use Rattle.std.proofs.Common.{◌≡◌, min, not, Some, None, true, false, length, ◌∙◌, ap, sym, rules, tests}
use Rattle.std.proofs.lemmas.Iterator.{YieldsList-from_slice}
use Rattle.std.proofs.lemmas.Iterator.Search.{position_from_yields_List}
use Rattle.frames.specs.Columns.{column}
use Rattle.ranges.proofs.Scans.{first_by_position, first_none_passes, first_all_pass}
use Rattle.ranges.proofs.range.first_from.Goals as goal

pub returns-in-Values : goal.returns-in-Values
returns-in-Values g c test says =
    let rows = column c.args.order.now in
    let from : c.min-from.result ≡ min c.args.from (length rows) = cc in
    let found = position_from_yields_List (λ x. not (test (Some x))) _ _ c.position.result c.position.ensures.ran (YieldsList-from_slice _ c.iter.ensures.rest) (λ x b q k. search (rules, tests, says)) in
    first_by_position test rows c.args.from c.in-Values.values.now (ap column c.in-Values.is) c.min-from.result c.position.result c.map_or.result from found (search (rules, tests))

pub returns-then-passes : goal.returns-then-passes
returns-then-passes g c test says =
    let passes : test None ≡ true = sym (says None c.passes.result c.passes.ensures) ∙ c.if-passes.true in
    first_all_pass test (column c.args.order.now) c.args.from c.in-Absent.rows (ap column c.in-Absent.is) passes

pub returns : goal.returns
returns g c test says =
    let rows = column c.args.order.now in
    let from : c.min-from.result ≡ min c.args.from (length rows) = cc in
    let fails : test None ≡ false = sym (says None c.passes.result c.passes.ensures) ∙ c.if-passes.false in
    first_none_passes test rows c.args.from c.in-Absent.rows (ap column c.in-Absent.is) c.min-from.result from fails
