use Rattle.std.proofs.Common.{ap, ◌∙◌}
use Rattle.rows.specs.Rows.{kept}
use Rattle.accumulators.proofs.Aggregates.{slid}
use Rattle.accumulators.proofs.aggregate.slide.Goals as goal

pub returns : goal.returns
returns g c =
    let a = g.A.Accumulator in
    let ys = kept c.args.entering.now in
    let zs = kept c.args.leaving.now in
    let told = c.in_ok-update.ensures in
    let after = c.retract.ensures ∙ ap (λ s. g.A.Retract.retracted s zs) told.1 in
    let is = c.evaluate.ensures in (
      told.0,
      after,
      is,
      slid a.figure a.stands g.met.A.Accumulator.lawful g.A.Retract.retracted g.met.A.Retract.retracting (a.numbers c.args.accumulator.now) (a.numbers c.retract.new.self) ys zs c.evaluate.result told.0 after is,
    )
