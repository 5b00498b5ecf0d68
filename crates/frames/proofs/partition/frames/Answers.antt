use Rattle.std.proofs.Common.{◌≡◌, ◌++◌, ◌∷◌, [], sym, ap, ◌∙◌, add-one, arith, rules}
use Rattle.std.proofs.lemmas.List.{take_more_set}
use Rattle.frames.specs.Columns.{column}
use Rattle.frames.specs.Partitions.{row_frame, row_frames}
use Rattle.frames.specs.Rules.{previous, frame_of}
use Rattle.frames.proofs.Partitions.{told}
use Rattle.frames.proofs.partition.frames.Goals as goal
use Rattle.frames.proofs.partition.frames.Goals.{then-must_wait, else-must_wait}

pub loop-row-preserved : goal.loop-row-preserved
loop-row-preserved g c =
    let R = g.R.FrameRule.rule c.args.rule.now in
    let P = column c.args.order.now in
    let i = c.loop-row.row in
    let at : c.calculate_range-last.result ≡ frame_of R P i = cc in
    let more = sym (add-one i) in
    let row : c.if-must_wait.place ≡ row_frame R P c.args.newest i = elim c.if-must_wait.branch [ then-must_wait w ↦ search rules | else-must_wait w ↦ search rules ] in
    record {
      last = at ∙ ap (previous R P) more;
      written = take_more_set c.loop-row.place-items i c.if-must_wait.place (omega arith) ∙ (λ j. c.loop-row.invariant.written j ++ row j ∷ []) ∙ ap (row_frames R P c.args.newest) more;
    }

pub returns-clause-told : goal.returns-clause-told
returns-clause-told g c = told g.O.Ordered.keyed (g.R.FrameRule.rule c.args.rule.now) (g.met.R.FrameRule.lawful c.args.rule.now) (column c.args.order.now) c.args.newest
