use Rattle.std.proofs.Common.{◌+◌, ◌%◌, ◌^◌, T, [], ◌∷◌, sym, ap, ◌∙◌, subst, arith, Float}
use Rattle.std.specs.Float.{binary64}
use Rattle.std.specs.Float.Ieee.{fits}
use Rattle.kinds.specs.Keys.{float_key}
use Rattle.kinds.specs.FloatKeys.{float_back}
use Rattle.rows.specs.Rows.{kept, non_null}
use Rattle.accumulators.specs.Sql.{float_total}
use Rattle.accumulators.specs.FloatSumsLemmas.{gathered_total, total_fits}
use Rattle.accumulators.proofs.float_sum.FloatSumAccumulator.update.Goals as goal

pub invariant_of-self-clause-fits : goal.invariant_of-self-clause-fits
invariant_of-self-clause-fits c =
    let a = c.args.self.now in
    let vs = non_null (kept c.args.rows.now) in
    subst (λ (z : Float). T (fits binary64 z)) (sym (ap (λ b. b.value) c.gather-batch.ensures.figure ∙ gathered_total _ vs)) (total_fits a.total vs a.fits)

pub returns : goal.returns
returns c =
    let a = c.args.self.now in
    let told = c.gather-batch.ensures in
    let vs = non_null (kept c.args.rows.now) in
    let room = c.in_ok-with.ensures in
    let r = room.0 ∙ ap (λ n. a.held.rows + n) told.rows in
    let p = room.2 ∙ ap (λ n. (a.held.present + n) % 2 ^ 64) told.present in
    let t = ap float_key (ap (λ b. b.value) told.figure ∙ gathered_total _ vs ∙ ap (λ z. float_total z vs) (sym (float_back a.total a.fits))) in
    (omega (arith, room.0, room.1, told.rows), λ i. r i ∷ p i ∷ t i ∷ [])
