use Rattle.std.proofs.Common.{◌≡◌, ◌+◌, ◌*◌, ◌<◌, ◌≤◌, ◌∷◌, suc, length, drop, set, sym, ap, ◌∙◌, add-one, arith, length-set}
use Rattle.std.proofs.lemmas.List.{drop-drop}
use Rattle.accumulators.specs.SlidingExtremesLemmas.{pairs_length}
use Rattle.accumulators.proofs.States.{written_more}
use Rattle.accumulators.proofs.sliding_extreme.SlidingExtremeAccumulator.state.Goals as goal

pub put_pair-requires : goal.put_pair-requires
put_pair-requires g c =
    let step = ap length c.in-Some.ensures.steps in
    omega (arith, c.state_len-needed.ensures, pairs_length c.args.self.now.ring, c.loop-i.auto.out, length-set c.args.out.now 0 c.len.result, step, c.loop-i.invariant.1)

pub loop-i-preserved : goal.loop-i-preserved
loop-i-preserved g c =
    let ks = c.args.self.now.ring in
    let i = c.loop-i.i in
    let out = set c.args.out.now 0 c.len.result in
    let step = c.in-Some.ensures.steps in
    let count = ap length step in
    let room : 1 + 2 * length ks ≤ length out = omega (arith, c.state_len-needed.ensures, pairs_length ks, length-set c.args.out.now 0 c.len.result) in
    let there : i < length ks = omega (arith, count, c.loop-i.invariant.1) in
    let here : drop i ks ≡ c.in-Some.row ∷ c.next.new.self = sym c.loop-i.invariant.0 ∙ step in
    let on : c.next.new.self ≡ drop (i + 1) ks = ap (drop 1) (sym here) ∙ drop-drop 1 i ks in
    let at : drop i ks ≡ c.in-Some.row ∷ drop (suc i) ks = here ∙ ap (λ rest. c.in-Some.row ∷ rest) (on ∙ ap (λ n. drop n ks) (add-one i)) in (
      on,
      omega (arith, count, c.loop-i.invariant.1),
      c.put_pair.ensures ∙ written_more ks out i c.in-Some.row c.loop-i.out there room at c.loop-i.invariant.2,
    )
