use Rattle.std.proofs.Common.{◌+◌, ◌-◌, ◌%◌, ◌≤◌, length, drop, sym, ap, ◌∙◌, arith}
use Rattle.std.proofs.lemmas.List.{drop_all}
use Rattle.accumulators.proofs.Rings.{ring_same, ring_drop, ring_length}
use Rattle.accumulators.proofs.ring.Ring.drop_oldest.Goals as goal

pub returns-then-count-self : goal.returns-then-count-self
returns-then-count-self c =
    let r = c.self.inside in
    let n = c.args.count in
    ring_same r.places ((r.first + n) % 64) (r.first + n) (r.held - n) (omega arith) ∙ sym (ring_drop r.places r.first r.held n) ∙ ap (drop n) c.self.view_is

pub returns-else-count-self : goal.returns-else-count-self
returns-else-count-self c =
    let r = c.self.inside in
    let short : length c.args.self.now ≤ c.args.count = omega (arith, ring_length r.places r.first r.held, ap length c.self.view_is) in
    sym (drop_all c.args.count c.args.self.now short)
