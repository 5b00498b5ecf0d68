use Rattle.std.proofs.Common.{◌≡◌, ◌-◌, min, length, take, drop, sym, ap, ◌∙◌, arith}
use Rattle.std.proofs.lemmas.List.{length-take, length-drop}
use Rattle.rows.specs.Rows.{mask_bytes, rows}
use Rattle.rows.proofs.RowLists.{rows_length, rows_part, clipped}
use Rattle.rows.proofs.arguments.Arguments.part.Goals as goal

pub returns : goal.returns
returns g c =
    let a = c.self.inside in
    let vs = a.values.now in
    let ps = a.presence.now in
    let ms = mask_bytes a.mask (length vs) in
    let s = c.min-start.result in
    let n = c.min-end.result - s in
    let long : length (take n (drop s vs)) ≡ n = simp (length-take, length-drop) (omega arith) in
    let whole = rows_length vs ps ms c.self.invariant.0 c.self.invariant.1 in
    ap (λ k. rows (take n (drop s vs)) (take n (drop s ps)) (mask_bytes c.mask_part.result k)) long
    ∙ ap (rows (take n (drop s vs)) (take n (drop s ps))) (c.mask_part.ensures (length vs) (omega arith))
    ∙ rows_part n s vs ps ms
    ∙ clipped (rows vs ps ms) c.args.start c.args.end c.min-end.result s (c.min-end.ensures ∙ ap (min c.args.end) (sym whole)) c.min-start.ensures
    ∙ ap (λ rs. drop c.args.start (take c.args.end rs)) c.self.view_is
