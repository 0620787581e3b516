use Rattle.std.proofs.Common.{◌≡◌, ◌∙◌, ◌<◌, ◌≤◌, ℕ, List, length, get_or, ap, sym, subst, arith}
use Rattle.std.specs.Option.{unwrap_or}
use Rattle.std.proofs.lemmas.Slice.Zip.{AllZip-long}
use Rattle.dmf_state.specs.NetworkState.{NetworkState, IsState}
use Rattle.dmf_solver.specs.declared.solve.SolvedSearch.{SolvedSearch}
use Rattle.dmf_solver.specs.Pairs.{Against, HasSolved, reached_flows}
use Rattle.dmf_solver.proofs.pairs.FlowsRead.{get_or-flows_read}
use Rattle.dmf_solver.proofs.solving.SolvingSearch.{pairs-long, reached-long}
use Rattle.dmf_solver.proofs.reached_flows.ReachedFlowsFlows.flow.Goals as goal

-- The index is that of a flow, and of an arc.
index : (s : NetworkState) (solved : SolvedSearch) (flows : List ℕ) (k : ℕ) → IsState s → HasSolved s solved → reached_flows s solved.search ≡ flows
    → k < length flows → (k < length s.flows) × (k < length s.network.arcs)
index s solved flows k state is same h =
    let reached = reached-long s solved.search state is.search_is is.state.flow.within in
    let long = AllZip-long _ s.network.arcs s.flows state.flow.within in
    let within : k < length (reached_flows s solved.search) = subst (λ (xs : List ℕ). k < length xs) (sym same) h in
    (omega (arith, within, reached), omega (arith, within, reached, long))

pub bounds-flows-k : goal.bounds-flows-k
bounds-flows-k c = rw c.flows.ensures.value (index _ _ _ c.args.k c.flows.ensures.state c.self.invariant c.self.view_is c.requires).0

pub offset_bounds-flows-k : goal.offset_bounds-flows-k
offset_bounds-flows-k c =
    let state = c.flows.ensures.state in
    omega (arith, (index _ _ _ c.args.k state c.self.invariant c.self.view_is c.requires).1, state.network.at_most_arcs)

pub against-requires : goal.against-requires
against-requires c =
    let state = c.flows.ensures.state in
    let is = c.self.invariant in
    omega (arith, (index _ _ _ c.args.k state is c.self.view_is c.requires).0, pairs-long c.self.inside.state.now _ state is.search_is is.state.flow.within)

pub returns : goal.returns
returns c =
    let s = c.self.inside.state.now in
    let search = c.self.inside.solved.now.search in
    let state = c.flows.ensures.state in
    let is = c.self.invariant in
    let k : ℕ = c.args.k in
    let at = index _ _ _ k state is c.self.view_is c.requires in
    let long : length s.flows ≤ length search.pairs = omega (arith, pairs-long s _ state is.search_is is.state.flow.within) in
    c.unwrap_or.ensures
    ∙ (λ t. unwrap_or (c.against.ensures t) (get_or (c.flows.ensures.value t) k 0))
    ∙ sym (get_or-flows_read Against s.flows search.pairs k long at.0)
    ∙ ap (λ (xs : List ℕ). get_or xs k 0) c.self.view_is
