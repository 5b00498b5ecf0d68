use Rattle.std.proofs.Common.{◌≡◌, ◌<◌, [], ◌∷◌, ◌++◌, length, ap, ◌∙◌, arith, rules}
use Rattle.accumulators.proofs.Rings.{ring_push, ring_length}
use Rattle.accumulators.proofs.ring.Ring.push.Goals as goal

pub returns : goal.returns
returns c =
    let r = c.self.inside in
    let whole : length r.places ≡ 64 = search rules in
    let room : r.held < 64 = omega (arith, ring_length r.places r.first r.held, ap length c.self.view_is, c.requires) in
    ring_push r.places c.args.key r.first r.held whole room ∙ ap (λ ks. ks ++ c.args.key ∷ []) c.self.view_is
