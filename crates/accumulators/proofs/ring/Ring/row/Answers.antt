use Rattle.std.proofs.Common.{◌<◌, length, ap, arith}
use Rattle.accumulators.proofs.Rings.{ring_at, ring_length}
use Rattle.accumulators.proofs.ring.Ring.row.Goals as goal

pub returns : goal.returns
returns c =
    let r = c.self.inside in
    let there : c.args.i < r.held = omega (arith, ring_length r.places r.first r.held, ap length c.self.view_is, c.requires) in
    rw (← c.self.view_is) (ring_at r.places r.first r.held c.args.i there)

pub overflow_add-result : goal.overflow_add-result
overflow_add-result c = let r = c.self.inside in omega (arith, ring_length r.places r.first r.held, ap length c.self.view_is, c.requires, c.self.invariant.0, c.self.invariant.1)
