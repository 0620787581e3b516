use Rattle.std.proofs.Common.{◌≡◌, ◌∙◌, ◌<◌, ◌≤◌, ℕ, List, length, get_or, ap, sym, arith}
use Rattle.std.specs.Option.{unwrap_or}
use Rattle.dmf_path.specs.Search.{Searched}
use Rattle.dmf_state.specs.NetworkState.{NetworkState}
use Rattle.dmf_solver.specs.Pairs.{Along, IsCarryingSearch, drained_flows, flows_without}
use Rattle.dmf_solver.proofs.draining.DrainingSearch.{length-carries}
use Rattle.dmf_solver.proofs.pairs.FlowsRead.{length-flows_read, get_or-flows_read}
use Rattle.dmf_solver.proofs.Emptied.{length-emptied}
use Rattle.dmf_solver.proofs.drained_flows.DrainedFlowsFlows.flow.Goals as goal
use Rattle.dmf_solver.proofs.drained_flows.DrainedFlowsFlows.flow.Goals.{After-along, After-self}

-- There is a pair for each number of the list.
each : (s : NetworkState) (unpaired : List ℕ) (search : Searched) → IsCarryingSearch s unpaired search → length unpaired ≤ length search.pairs
each s unpaired search carries = omega (arith, length-carries s unpaired _ search carries, carries.listed)

-- the flows of the state, without those of the drained arcs
abbrev left : After-self → List ℕ
left c = flows_without c.self.inside.shut.now c.self.inside.state.now.flows

-- The index is one of these flows, and of the pairs.
within : (c : After-self) → (c.args.k < length (left c)) × (c.args.k < length c.self.inside.search.now.pairs)
within c =
    let a = c.self.inside in
    let pairs = each a.state.now (left c) a.search.now c.self.invariant.carrying in
    let long = ap (λ (xs : List ℕ). length xs) c.self.view_is in
    let flows = length-flows_read Along (left c) a.search.now.pairs pairs in
    (omega (arith, c.requires, long, flows), omega (arith, c.requires, long, flows, pairs))

-- The flow is read from the pair.
read : (c : After-along) → get_or (drained_flows c.self.inside.state.now c.self.inside.shut.now c.self.inside.search.now) c.args.k 0
    ≡ unwrap_or c.along.result (get_or (left (goal.at.After-along c).After-self) c.args.k 0)
read c =
    let a = c.self.inside in
    let here = (goal.at.After-along c).After-self in
    get_or-flows_read Along (left here) a.search.now.pairs c.args.k (each a.state.now (left here) a.search.now c.self.invariant.carrying) (within here).0
    ∙ sym (ap (λ o. unwrap_or o (get_or (left here) c.args.k 0)) c.along.ensures)

pub along-requires : goal.along-requires
along-requires c = (within (goal.at.along-requires c).After-self).1

pub emptied_flow-requires-clause-within : goal.emptied_flow-requires-clause-within
emptied_flow-requires-clause-within c =
    let a = c.self.inside in
    omega (arith, (within (goal.at.emptied_flow-requires-clause-within c).After-self).0, length-emptied a.shut.now a.state.now.flows)

pub returns-in-Some : goal.returns-in-Some
returns-in-Some c =
    let first = get_or (left (goal.at.returns-in-Some c).After-self) c.args.k 0 in
    sym (ap (λ o. unwrap_or o first) c.in-Some.is)
    ∙ sym (read (goal.at.returns-in-Some c).After-along)
    ∙ ap (λ (xs : List ℕ). get_or xs c.args.k 0) c.self.view_is

pub returns-in-None : goal.returns-in-None
returns-in-None c =
    let first = get_or (left (goal.at.returns-in-None c).After-self) c.args.k 0 in
    c.emptied_flow.ensures
    ∙ sym (ap (λ o. unwrap_or o first) c.in-None.is)
    ∙ sym (read (goal.at.returns-in-None c).After-along)
    ∙ ap (λ (xs : List ℕ). get_or xs c.args.k 0) c.self.view_is
