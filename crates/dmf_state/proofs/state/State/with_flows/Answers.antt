use Rattle.std.proofs.Common.{subst, sym}
use Rattle.dmf_state.specs.contracts.state.State.{the_view}
use Rattle.dmf_state.specs.FlowSums.{IsNodeFlow}
use Rattle.dmf_state.specs.NetworkState.{IsState, with_flows}
use Rattle.dmf_state.proofs.Balance.{KeepsTotals-with_flows}
use Rattle.dmf_state.proofs.state.State.with_flows.Goals as goal

pub invariant_of-result : goal.invariant_of-result
invariant_of-result c =
    let told = c.in_ok-at_source.ensures in
    let state = subst (λ s. IsState (with_flows s c.args.flows.items)) (sym c.self.view_is)
    (subst (λ flows. IsState (with_flows c.args.self.now flows)) c.deref.ensures.value c.in_ok-at_source.ensures.state) in
    let source = subst (λ s. IsNodeFlow s.network.arcs c.args.flows.items s.network.source c.in_ok-at_source.at_source) (sym c.self.view_is)
    (subst (λ flows. IsNodeFlow c.args.self.now.network.arcs flows c.args.self.now.network.source c.in_ok-at_source.at_source) c.deref.ensures.value
    told.source) in
    rw (c.in_ok-arcs.ensures.items, c.deref-2.ensures.value)
    (KeepsTotals-with_flows (the_view c.self.inside) _ _ _ _ _ c.self.invariant state source)
