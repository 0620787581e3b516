use Rattle.std.proofs.Common.{ℕ, List, ◌+◌, ◌<◌, ◌-◌, length, get_or, set, refl, ap, sym, ◌∙◌, subst, arith}
use Rattle.std.proofs.lemmas.List.{length-set}
use Rattle.std.proofs.lemmas.List.Sums.{get_or-le-sum_by}
use Rattle.dmf_state.specs.declared.arc.Arc.{Arc}
use Rattle.dmf_state.specs.Arc.{no_arc}
use Rattle.dmf_state.specs.Flow.{flow_on}
use Rattle.dmf_state.specs.Network.{arc_number}
use Rattle.dmf_state.proofs.ChangedArc.{has_arc-within}
use Rattle.dmf_state.proofs.Changing.{within-at}
use Rattle.dmf_vital.specs.declared.along.Carried.{Carried}
use Rattle.dmf_vital.specs.declared.hop.Hop.{Hop}
use Rattle.dmf_vital.specs.Hop.{sent, to_of}
use Rattle.dmf_vital.specs.Sent.{IsTakenBack, no_step, taken_back}
use Rattle.dmf_vital.specs.Shifted.{AreShifted}
use Rattle.dmf_vital.proofs.Pushed.{room-more}
use Rattle.dmf_vital.proofs.Sending.{back-more, goes-within, sent-nothing, sent-on}
use Rattle.dmf_vital.proofs.along.send_along.Goals as goal

pub loop-k-init : goal.loop-k-init
unfolding taken_back
loop-k-init c = record {
  sent = sent-nothing c.args.state.now.network c.args.exits c.args.exits.node c.args.amount c.args.flows.now c.requires.within;
  back = record { is = refl };
  long = refl;
}

pub bounds-flows-index : goal.bounds-flows-index
bounds-flows-index c =
    let hop : Hop = get_or c.args.way.now c.loop-k.k no_step in
    let is = goes-within c.args.state.now.network c.args.exits c.loop-k.at c.args.amount c.loop-k.flows hop c.loop-k.invariant.sent.within
    (c.goes_on.ensures c.if-not-goes_on.false) in
    omega (arith, is.0, is.1)

pub send-requires-clause-to_last : goal.send-requires-clause-to_last
send-requires-clause-to_last c =
    let hop : Hop = get_or c.args.way.now c.loop-k.k no_step in
    let is = goes-within c.args.state.now.network c.args.exits c.loop-k.at c.args.amount c.loop-k.flows hop c.loop-k.invariant.sent.within
    (c.goes_on.ensures c.if-not-goes_on.false) in
    is.1

pub send-requires-clause-more : goal.send-requires-clause-more
send-requires-clause-more c = λ along.
    let n = c.args.state.now.network in
    let hop : Hop = get_or c.args.way.now c.loop-k.k no_step in
    let goes = c.goes_on.ensures c.if-not-goes_on.false in
    let most = room-more hop.against (arc_number n hop.arc) (flow_on c.loop-k.flows hop.arc) c.args.amount along
    (within-at n.arcs c.loop-k.flows (hop.arc - 1) c.loop-k.invariant.sent.within) goes.room in
    let cap = get_or-le-sum_by (λ (a : Arc). a.cap) n.arcs (hop.arc - 1) no_arc (has_arc-within n hop.arc goes.is_there).1 in
    omega (arith, most, cap, c.arc-arc.ensures.state.network.capacities)

pub loop-k-preserved : goal.loop-k-preserved
loop-k-preserved c =
    let n = c.args.state.now.network in
    let e = c.args.exits in
    let first : List ℕ = c.args.flows.now in
    let now : List ℕ = c.loop-k.flows in
    let k : ℕ = c.loop-k.k in
    let amount : ℕ = c.args.amount in
    let hop : Hop = get_or c.args.way.now k no_step in
    let i : ℕ = hop.arc - 1 in
    let one : Carried = record { index = i; flow = get_or now i 0 } in
    let x : ℕ = sent hop.against amount (flow_on now hop.arc) in
    let goes = c.goes_on.ensures c.if-not-goes_on.false in
    let leads = c.to_of-at.ensures ∙ ap (to_of hop.against) c.arc-arc.ensures.value in
    let inside : k < length c.loop-k.before = omega (arith, c.loop-k-test.true, c.loop-k.invariant.long, c.requires.fits) in
    record {
      sent = subst (λ w. AreShifted n e e.node w amount first c.send.new.flows) (sym leads)
          (subst (AreShifted n e e.node (to_of hop.against (arc_number n hop.arc)) amount first) (sym c.send.ensures)
          (sent-on n e e.node c.loop-k.at amount first now hop c.loop-k.invariant.sent goes));
      back = subst (λ xs. IsTakenBack (set c.loop-k.before k one) (k + 1) xs first) (sym c.send.ensures)
          (back-more c.loop-k.before k i x (get_or now i 0) now first inside refl c.loop-k.invariant.back);
      long = length-set c.loop-k.before k one ∙ c.loop-k.invariant.long;
    }
