use Rattle.std.proofs.Common.{◌≡◌, ◌+◌, ◌∷◌, map, length, ap, ◌∙◌, arith, length-append}
use Rattle.std.specs.Option.{option_map}
use Rattle.std.proofs.lemmas.List.{length-map}
use Rattle.rows.specs.Rows.{kept}
use Rattle.accumulators.specs.SlidingExtremes.{pairs}
use Rattle.accumulators.specs.SlidingExtremesLemmas.{pairs-append}
use Rattle.accumulators.proofs.sliding_extreme.SlidingExtremeAccumulator.update.Goals as goal

pub returns : goal.returns
returns g c =
    let ks = c.args.self.now.ring in
    let ys = kept c.args.rows.now in
    let js = map (option_map g.V.Ordered.keyed) ys in
    let room = c.in_ok-make_room.ensures in
    let after = c.push_all.ensures in
    let r : length (c.push_all.new.ring) ≡ length ks + length ys = ap length after ∙ length-append ks js ∙ ap (λ n. length ks + n) (length-map ys (option_map g.V.Ordered.keyed)) in
    let p = ap pairs after ∙ pairs-append ks js in
    (omega (arith, room.0, room.1, c.gather-offered.ensures.rows, c.len.ensures.rows), λ i. r i ∷ p i)
