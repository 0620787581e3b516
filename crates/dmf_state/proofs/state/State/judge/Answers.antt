use Rattle.std.proofs.Common.{◌≡◌, ◌⊎◌, ℕ, List, Some, Err, inr, sym, subst}
use Rattle.std.specs.Result.{IsErrOf}
use Rattle.dmf_state.specs.declared.fault.FlowFault.{FlowFault}
use Rattle.dmf_state.specs.declared.fault.FlowFault.TheVariants.{OverCapacity, NotConserved, Negative, NoMemory}
use Rattle.dmf_state.specs.declared.flow_sums.NodeFlow.{NodeFlow}
use Rattle.dmf_state.specs.Network.{Network}
use Rattle.dmf_state.specs.contracts.state.State.{the_view}
use Rattle.dmf_state.specs.Flow.{AreWithinCapacities, IsFlow}
use Rattle.dmf_state.specs.FlowFault.{flow_fault}
use Rattle.dmf_state.specs.FlowSums.{IsLeast, IsOverCapacity, IsNodeFlow}
use Rattle.dmf_state.specs.NetworkState.{IsState, with_flows}
use Rattle.dmf_state.proofs.FlowFaults.{fault-over, fault-unbalanced, fault-negative, fault-none}
use Rattle.dmf_state.proofs.Balance.{AreBothSums, conserved-from_sums, least_unbalanced, at_source-from_sums, negative-from_source}
use Rattle.dmf_state.proofs.Balance.{IsState-from_source}
use Rattle.dmf_state.proofs.state.State.judge.Goals as goal
use Rattle.dmf_state.proofs.state.State.judge.Goals.{After-first_unbalanced, After-at-at_source}

-- what a call says when memory is refused
abbrev Told : FlowFault → Network → List ℕ → Type 0
Told fault n flows = IsErrOf {T = NodeFlow} (Err fault) NoMemory ⊎ (Some fault ≡ flow_fault n flows)

pub returns-in-Some-clause-refused : goal.returns-in-Some-clause-refused
returns-in-Some-clause-refused c =
    let least = subst (λ arcs. IsLeast (IsOverCapacity arcs c.args.flows.now) c.in-Some.arc) c.deref.ensures.value c.in-Some.ensures in
    subst (λ s. Told (OverCapacity c.in-Some.arc) s.network c.args.flows.now) c.self.view_is (inr (sym (fault-over (the_view c.self.inside).network _ _ least)))

-- no arc is over its capacity
within : (c : After-first_unbalanced) → AreWithinCapacities (the_view c.self.inside).network.arcs c.args.flows.now
within c = subst (λ arcs. AreWithinCapacities arcs c.args.flows.now) c.deref.ensures.value c.in_default.ensures

-- the outflow and inflow of each node
sums : (c : After-first_unbalanced)
    → AreBothSums (the_view c.self.inside).network c.args.flows.now c.in_ok-sums.sums.leaving.items c.in_ok-sums.sums.entering.items
sums c = rw (← c.deref-2.ensures.value) (record { tails = c.in_ok-sums.ensures.leaving; heads = c.in_ok-sums.ensures.entering })

flow : (c : After-at-at_source) → IsFlow (the_view c.self.inside).network c.args.flows.now
flow c =
    let before = (goal.at.After-at-at_source c).After-first_unbalanced in
    record { within = within before; conserved = conserved-from_sums _ _ _ _ (sums before) c.in_default-first_unbalanced.ensures }

-- the outflow and inflow of the source
source : (c : After-at-at_source)
    → IsNodeFlow (the_view c.self.inside).network.arcs c.args.flows.now (the_view c.self.inside).network.source c.at-at_source.result
source c =
    at_source-from_sums _ _ _ _ (sums (goal.at.After-at-at_source c).After-first_unbalanced) _ c.self.invariant.state.network.source
    c.at-at_source.ensures.leaving c.at-at_source.ensures.entering

pub returns-in-Some-first_unbalanced-clause-refused :
    goal.returns-in-Some-first_unbalanced-clause-refused
returns-in-Some-first_unbalanced-clause-refused c =
    let before = (goal.at.returns-in-Some-first_unbalanced-clause-refused c).After-first_unbalanced in
    let least = least_unbalanced _ _ _ _ (sums before) _ c.in-Some-first_unbalanced.ensures in
    subst (λ s. Told (NotConserved c.in-Some-first_unbalanced.node) s.network c.args.flows.now) c.self.view_is
    (inr (sym (fault-unbalanced _ _ _ (within before) least)))

pub returns-then-at_source-clause-refused : goal.returns-then-at_source-clause-refused
returns-then-at_source-clause-refused c =
    let at = (goal.at.returns-then-at_source-clause-refused c).After-at-at_source in
    let negative = negative-from_source (the_view c.self.inside).network _ _ (source at) c.if-at_source.true in
    subst (λ s. Told Negative s.network c.args.flows.now) c.self.view_is (inr (sym (fault-negative _ _ (flow at) negative)))

pub returns-clause-state : goal.returns-clause-state
returns-clause-state c =
    let at = (goal.at.returns-clause-state c).After-at-at_source in
    subst (λ s. IsState (with_flows s c.args.flows.now)) c.self.view_is
    (IsState-from_source _ _ _ c.self.invariant.state.network (flow at) (source at) c.if-at_source.false)

pub returns-clause-source : goal.returns-clause-source
returns-clause-source c =
    subst (λ s. IsNodeFlow s.network.arcs c.args.flows.now s.network.source c.at-at_source.result) c.self.view_is
    (source (goal.at.returns-clause-source c).After-at-at_source)

pub returns-clause-refused : goal.returns-clause-refused
returns-clause-refused c = inr (sym (fault-none c.args.self.now.network c.args.flows.now (returns-clause-state c)))
