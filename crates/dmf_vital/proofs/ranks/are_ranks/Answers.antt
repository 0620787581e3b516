use Rattle.std.proofs.Common.{◌≡◌, ◌≢◌, ◌-◌, Bool, true, false, List, get_or, length, ap, sym, subst, arith, ⊎_elim}
use Rattle.std.proofs.lemmas.Bool.{cases_eq}
use Rattle.std.proofs.lemmas.Slice.Zip.{AllZip-long}
use Rattle.dmf_state.specs.declared.arc.Arc.{Arc}
use Rattle.dmf_state.specs.Arc.{no_arc}
use Rattle.dmf_state.proofs.ChangedArc.{has_arc-within}
use Rattle.dmf_vital.specs.Ranks.{StaysLow}
use Rattle.dmf_vital.proofs.ranks.are_ranks.Goals as goal

pub bounds-flows-k : goal.bounds-flows-k
bounds-flows-k c =
    let n = c.args.state.now.network in
    omega (arith, c.loop-k-test.true, ap length c.arcs-arcs.ensures.value, AllZip-long _ n.arcs c.args.flows.now c.requires)

-- What is true in both directions is so in each.
each : (P : Bool → Type 0) → P false → P true → (b : Bool) → P b
each P f t true = t
each P f t false = f

pub loop-k-preserved : goal.loop-k-preserved
loop-k-preserved c = λ against i h. ⊎_elim
    (λ (here : i ≡ c.loop-k.k).
    let ranks = c.args.ranks.now in
    let flows = c.args.flows.now in
    let low = each (λ b. StaysLow ranks b (get_or c.arcs-arcs.result.now c.loop-k.k no_arc) (get_or flows c.loop-k.k 0)) (c.rises.ensures.along c.if-rises.false)
    (c.rises.ensures.against c.if-rises.false) against in
    subst (λ m. StaysLow ranks against (get_or c.args.state.now.network.arcs m no_arc) (get_or flows m 0)) (sym here)
    (subst (λ (arcs : List Arc). StaysLow ranks against (get_or arcs c.loop-k.k no_arc) (get_or flows c.loop-k.k 0)) c.arcs-arcs.ensures.value low))
    (λ (apart : i ≢ c.loop-k.k). c.loop-k.invariant against i (omega (arith, h, apart)))
    (cases_eq i c.loop-k.k)

pub returns : goal.returns
returns c = λ _. record {
  none_rises = λ against i there.
      let at = has_arc-within c.args.state.now.network i there in
      c.loop-k.invariant against (i - 1) (omega (arith, at.1, c.loop-k-test.false, ap length c.arcs-arcs.ensures.value));
}
