use Rattle.std.proofs.Common.{◌+◌, map, sym, ap, ◌∙◌, arith}
use Rattle.rows.specs.Rows.{kept, non_null}
use Rattle.accumulators.specs.Extremes.{best, extreme_state}
use Rattle.accumulators.specs.ExtremesLemmas.{gathered_best, held_best}
use Rattle.accumulators.proofs.extreme.ExtremeAccumulator.update.Goals as goal

pub returns : goal.returns
returns g c =
    let a = c.args.self.now in
    let told = c.gather-batch.ensures in
    let vs = non_null (kept c.args.rows.now) in
    let greatest = g.D.Direction.greatest in
    let keyed = g.V.Ordered.keyed in
    let room = c.in_ok-self.ensures in
    let r = room.0 ∙ ap (λ n. a.rows + n) told.rows in
    let b = ap (λ b. b.key) told.figure ∙ gathered_best greatest keyed _ vs ∙ ap (λ z. best greatest z (map keyed vs)) (sym (held_best a.rows a.best)) in
    (omega (arith, room.0, room.1, told.rows), λ i. extreme_state (r i) (b i))
