use Rattle.std.proofs.Common.{sym, ap, ◌∙◌, subst}
use Rattle.std.proofs.lemmas.Result.{err_from_is_err_and}
use Rattle.rows.specs.Rows.{kept}
use Rattle.accumulators.proofs.Aggregates.{any_cut, whole, too_many}
use Rattle.accumulators.proofs.aggregate.aggregate.Goals as goal

pub returns-in_err-update : goal.returns-in_err-update
returns-in_err-update g c =
    let F = g.A.Accumulator.figure in
    let laws = g.met.A.Accumulator.lawful in
    let numbers = g.A.Accumulator.numbers in
    let xs = kept c.args.rows.now in
    let told = c.in_err-update.ensures in
    let p = err_from_is_err_and c.from_residual.result c.from_residual.ensures.1 in
    record {
      value = rw (p.1, p.2) (too_many F g.A.Accumulator.stands laws (numbers c.new-group.result) xs c.new-group.ensures _ told.0 told.2 told.3);
      cut = any_cut F g.A.Accumulator.stands laws;
    }

pub returns : goal.returns
returns g c =
    let F = g.A.Accumulator.figure in
    let numbers = g.A.Accumulator.numbers in
    let laws = g.met.A.Accumulator.lawful in
    let xs = kept c.args.rows.now in
    let told = c.in_ok-update.ensures in
    let w = whole F g.A.Accumulator.stands laws (numbers c.new-group.result) xs c.new-group.ensures told.0 in
    let is = c.evaluate.ensures ∙ ap F.answered told.1 ∙ w.1 in
    record {
      value = (w.0, is, λ f. subst (g.A.Accumulator.standard xs) (sym is) (g.met.A.Accumulator.sql xs w.0 f));
      cut = any_cut F g.A.Accumulator.stands laws;
    }
