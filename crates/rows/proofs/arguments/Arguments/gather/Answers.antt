use Rattle.std.proofs.Common.{rules}
use Rattle.std.proofs.lemmas.List.{drop_all}
use Rattle.rows.specs.Rows.{kept}
use Rattle.rows.proofs.Lists.{present_few}
use Rattle.rows.proofs.RowLists.{kept_few}
use Rattle.rows.proofs.arguments.Arguments.gather.Goals as goal

pub overflow_add-rows : goal.overflow_add-rows
overflow_add-rows g c = let few = kept_few c.args.self.now in search rules

pub overflow_add-present : goal.overflow_add-present
overflow_add-present g c =
    let few = kept_few c.args.self.now in
    let fewer = present_few (kept c.args.self.now) in
    search rules

pub returns-clause-fewer : goal.returns-clause-fewer
returns-clause-fewer g c =
    let none = drop_all c.loop-i.i c.args.self.now in
    let fewer = present_few (kept c.args.self.now) in
    search rules
