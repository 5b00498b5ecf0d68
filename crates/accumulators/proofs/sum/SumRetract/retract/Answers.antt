use Rattle.std.proofs.Common.{◌-◌, ◌≤◌, [], ◌∷◌, length, ap, ◌∙◌, arith, w64, SFits, rules, le-ltb}
use Rattle.rows.specs.Rows.{kept, non_null}
use Rattle.accumulators.specs.SumsLemmas.{total_taken}
use Rattle.accumulators.proofs.sum.SumRetract.retract.Goals as goal

pub returns-in-Some : goal.returns-in-Some
returns-in-Some c =
    let a = c.args.self.now in
    let b = c.gather-batch.new.figure in
    let told = c.gather-batch.ensures in
    let left = c.in-Some.ensures in
    let xs = kept c.args.rows.now in
    let enough : length xs ≤ a.held.rows = omega (arith, told.rows, left.0) in
    let fits_total : SFits w64 a.total = search rules in
    let fits_batch : SFits w64 b.value = search rules in
    let r = left.1 ∙ ap (λ n. a.held.rows - n) told.rows in
    let p = left.2 ∙ ap (λ n. a.held.present - n) told.present in
    let t = total_taken a.total b (non_null xs) fits_total fits_batch told.figure in
    rw (le-ltb a.held.rows (length xs) enough) (λ i. r i ∷ p i ∷ t i ∷ [])
