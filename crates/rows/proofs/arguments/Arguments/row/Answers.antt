use Rattle.std.proofs.Common.{◌≡◌, ◌≤◌, ◌<◌, length, get_or, None, sym, ◌∙◌, rules}
use Rattle.rows.proofs.RowLists.{past_the_rows, row_kept, row_left_out, unmasked, masked_by}
use Rattle.rows.proofs.arguments.Arguments.row.Goals as goal

pub returns-in_err-value : goal.returns-in_err-value
returns-in_err-value g c =
    let past : length c.self.inside.values.now ≤ c.args.i = search rules in
    let none : c.from_residual.result ≡ None = search rules in
    rw (none, ← c.self.view_is) (past_the_rows c.self.inside c.self.invariant c.args.i past)

pub returns-in-None : goal.returns-in-None
returns-in-None g c =
    let a = c.self.inside in
    let i = c.args.i in
    let v = c.in_ok-value.field-0.now in
    let there : i < length a.values.now = search rules in
    let read : v ≡ get_or a.values.now i v = search rules in
    rw (← c.self.view_is) (row_kept a c.self.invariant i there v _ read c.argument-argument.ensures (unmasked a c.self.invariant i there c.in-None.is))

pub returns-then-mask-i-eq0 : goal.returns-then-mask-i-eq0
returns-then-mask-i-eq0 g c =
    let a = c.self.inside in
    let i = c.args.i in
    let there : i < length a.values.now = search rules in
    rw (← c.self.view_is) (row_left_out a c.self.invariant i there c.in_ok-value.field-0.now (masked_by a c.self.invariant i there _ c.in-Some.is ∙ c.if-mask-i-eq0.true))

pub returns-else-mask-i-eq0 : goal.returns-else-mask-i-eq0
returns-else-mask-i-eq0 g c =
    let a = c.self.inside in
    let i = c.args.i in
    let v = c.in_ok-value.field-0.now in
    let there : i < length a.values.now = search rules in
    let read : v ≡ get_or a.values.now i v = search rules in
    rw (← c.self.view_is) (row_kept a c.self.invariant i there v _ read c.argument-argument.ensures (λ e. c.if-mask-i-eq0.false (sym (masked_by a c.self.invariant i there _ c.in-Some.is) ∙ e)))
