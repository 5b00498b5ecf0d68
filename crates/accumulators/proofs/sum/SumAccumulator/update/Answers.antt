use Rattle.std.proofs.Common.{◌+◌, ◌%◌, ◌^◌, [], ◌∷◌, ap, ◌∙◌, arith, w64, SFits, rules}
use Rattle.rows.specs.Rows.{kept, non_null}
use Rattle.accumulators.specs.SumsLemmas.{total_added}
use Rattle.accumulators.proofs.sum.SumAccumulator.update.Goals as goal

pub returns : goal.returns
returns c =
    let a = c.args.self.now in
    let b = c.gather-batch.new.figure in
    let told = c.gather-batch.ensures in
    let fits_total : SFits w64 a.total = search rules in
    let fits_batch : SFits w64 b.value = search rules in
    let room = c.in_ok-self.ensures in
    let r = room.0 ∙ ap (λ n. a.held.rows + n) told.rows in
    let p = room.2 ∙ ap (λ n. (a.held.present + n) % 2 ^ 64) told.present in
    let t = total_added a.total b (non_null (kept c.args.rows.now)) fits_total fits_batch told.figure in
    (omega (arith, room.0, room.1, told.rows), λ i. r i ∷ p i ∷ t i ∷ [])
