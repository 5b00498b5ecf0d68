use Rattle.std.proofs.Common.{◌≡◌, ◌-◌, take, drop, sym, ap, ◌∙◌, None, rules}
use Rattle.rows.specs.Rows.{mask_bytes}
use Rattle.rows.proofs.RowLists.{no_mask_part}
use Rattle.rows.proofs.arguments.mask_part.Goals as goal

pub returns-in_err-mask : goal.returns-in_err-mask
returns-in_err-mask c n h =
    let before : c.args.mask ≡ None = search rules in
    let after : c.from_residual.result ≡ None = search rules in
    ap (λ m. mask_bytes m (c.args.end - c.args.start)) after
    ∙ no_mask_part c.args.start c.args.end n c.requires.start_le_end h
    ∙ ap (λ m. take (c.args.end - c.args.start) (drop c.args.start (mask_bytes m n))) (sym before)
