use Rattle.std.proofs.Common.{length, sym, ap, ◌∙◌}
use Rattle.accumulators.proofs.Rings.{ring_length}
use Rattle.accumulators.proofs.ring.Ring.len.Goals as goal

pub returns : goal.returns
returns c =
    let r = c.self.inside in
    record { rows = sym (ring_length r.places r.first r.held) ∙ ap length c.self.view_is; few = c.self.invariant.1 }
