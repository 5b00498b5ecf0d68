use Rattle.std.proofs.Common.{length, sym, ap, ◌∙◌}
use Rattle.rows.specs.Rows.{mask_bytes}
use Rattle.rows.proofs.RowLists.{rows_length}
use Rattle.rows.proofs.arguments.Arguments.len.Goals as goal

pub returns : goal.returns
returns g c =
    let a = c.self.inside in
    sym (rows_length a.values.now a.presence.now (mask_bytes a.mask (length a.values.now)) c.self.invariant.0 c.self.invariant.1) ∙ ap length c.self.view_is
