use Rattle.std.proofs.Common.{◌≡◌, ◌-◌, length, take, ap, ◌∙◌, subst, arith}
use Rattle.std.proofs.lemmas.List.{length-take}
use Rattle.rows.specs.Rows.{mask_bytes, rows}
use Rattle.rows.proofs.RowLists.{rows_take, rows_all}
use Rattle.rows.proofs.arguments.Arguments.new.Goals as goal

pub returns : goal.returns
returns g c =
    let vs = c.args.values.now in
    let ps = c.args.presence.now in
    let ms = mask_bytes c.args.mask (length vs) in
    let n = c.min-len.result in
    let long : length (take n vs) ≡ n = length-take n vs ∙ omega arith in
    let whole : n - 0 ≡ n = omega arith in
    let cut = subst (λ k. mask_bytes c.mask_part.result k ≡ take k ms) whole (c.mask_part.ensures (length vs) (omega arith)) in
    ap (λ k. rows (take n vs) (take n ps) (mask_bytes c.mask_part.result k)) long
    ∙ ap (rows (take n vs) (take n ps)) cut
    ∙ rows_take n vs ps ms
    ∙ rows_all vs ps ms n (omega arith)
