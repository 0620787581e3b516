-- Solving by a search among the residual pairs: what the search keeps as it augments, and the flow that it has at the end.
use Rattle.std.proofs.Common.{ℕ, ◌≡◌, ◌+◌, ◌-◌, ◌*◌, ◌^◌, ◌<◌, ◌≤◌, true, min, List, [], ◌∷◌, length, get_or, refl, ap}
use Rattle.std.proofs.Common.{sym, ◌∙◌, subst, arith, pos, Option}
use Rattle.std.specs.List.Sorted.{IsStrictlyIncreasing}
use Rattle.std.specs.Option.{IfSome}
use Rattle.std.proofs.lemmas.Int.{ints}
use Rattle.std.proofs.lemmas.List.Sums.{get_or-le-sum_by}
use Rattle.std.proofs.lemmas.Slice.Zip.{AllZip-long}
use Rattle.dmf_links.specs.declared.pair.Pair.{Pair}
use Rattle.dmf_path.specs.Step.{Step}
use Rattle.dmf_path.specs.Path.{IsPath, HasNoPath, bottleneck, bottleneck_up_to}
use Rattle.dmf_path.specs.Pair.{steps_of, pushed_pairs}
use Rattle.dmf_path.specs.declared.search.AugmentingPath.{AugmentingPath}
use Rattle.dmf_path.specs.Search.{Searched, Augments}
use Rattle.dmf_path.specs.Touched.{AreBelow, KeepsUntouched}
use Rattle.dmf_state.specs.declared.arc.Arc.{Arc}
use Rattle.dmf_solver.specs.declared.solve.SolvedSearch.{SolvedSearch}
use Rattle.dmf_state.specs.Arc.{no_arc}
use Rattle.dmf_state.specs.Network.{Network, IsNetwork}
use Rattle.dmf_state.specs.Flow.{AreWithinCapacities, IsFlow, flow_value}
use Rattle.dmf_state.specs.NetworkState.{NetworkState, IsState, with_flows}
use Rattle.dmf_solver.specs.Residual.{residual_steps, augmented}
use Rattle.dmf_solver.specs.Solve.{Solves}
use Rattle.dmf_solver.specs.ResidualNetwork.{closed_return, network_pairs, residual_search}
use Rattle.dmf_solver.specs.Pairs.{Against, KeepLoops, reached_flows, HasSolved}
use Rattle.dmf_solver.proofs.solving.Augmenting.{augmented-value, value-le-capacities}
use Rattle.dmf_solver.proofs.solving.Augmenting.{get_or-augmented_from}
use Rattle.dmf_solver.proofs.pairs.FlowsRead.{length-flows_read}
use Rattle.dmf_solver.proofs.pairs.NetworkPairs.{length-network_pairs, search-least, search-no_path, network_pairs-augmented}
use Rattle.dmf_solver.proofs.pairs.ArcPairs.{loop-unranked, read-flows}
use Rattle.dmf_solver.proofs.pairs.ResidualPairs.{by_residual_pair}
use Rattle.dmf_state.proofs.Changing.{within-at}
use Rattle.dmf_solver.proofs.solving.ResidualSteps.{along, against, residual-contained}
use Rattle.dmf_solver.proofs.solving.RoomLeaving.{room_leaving, room_leaving-falls}
use Rattle.dmf_solver.proofs.solving.Solving.{IsReached, reached-more}

-- Augmenting keeps the flow on self loops.
kept-augmented : (n : Network) (firsts flows : List ℕ) (path : List Step) → AreWithinCapacities n.arcs flows
    → IsPath (steps_of (network_pairs n flows)) n.source n.sink path → KeepLoops n firsts flows → KeepLoops n firsts (augmented path flows)
kept-augmented n firsts flows path within leads kept k h loop =
    let long = AllZip-long _ n.arcs flows within in
    let none = λ (rank : ℕ). loop-unranked by_residual_pair n.arcs flows (closed_return n ∷ []) n.source n.sink k rank path long h loop leads in
    let forth = none (2 * (1 + k)) (omega arith) (omega arith) in
    let back = none (2 * (1 + k) + 1) (omega arith) (omega arith) in
    let same : get_or flows k 0 + 0 - 0 ≡ get_or flows k 0 = omega arith in
    get_or-augmented_from 1 (bottleneck path) path flows k (omega (arith, h, long)) ∙ rw (forth, back) same ∙ kept k h loop

-- the least of a number and the rooms on a path
bottleneck_up_to-min : (a b : ℕ) (path : List Step) → min a (bottleneck_up_to b path) ≡ bottleneck_up_to (min a b) path
bottleneck_up_to-min a b [] = refl
bottleneck_up_to-min a b (s ∷ path) = let rest = bottleneck_up_to-min a b path in omega (arith, rest)

-- A limit of 64 bits is above each room.
bottleneck_up_to-least : (n : Network) (flows : List ℕ) (limit : ℕ) (path : List Step) → limit + 1 ≡ 2 ^ 64 → IsNetwork n → IsFlow n flows
    → IsPath (residual_steps n.arcs flows) n.source n.sink path → bottleneck_up_to limit path ≡ bottleneck path
bottleneck_up_to-least n flows limit [] all is flow leads = absurd (is.two_terminals leads)
bottleneck_up_to-least n flows limit (s ∷ path) all is flow leads =
    let small : s.room ≤ limit =
    elim (residual-contained 1 n.arcs flows s leads.0) [
      | along k at room some ↦ let le = get_or-le-sum_by (λ (a : Arc). a.cap) n.arcs k no_arc at.within in omega (arith, le, room, is.capacities, all)
      | against k at room some ↦
          let le = get_or-le-sum_by (λ (a : Arc). a.cap) n.arcs k no_arc at.within in
          let within = within-at n.arcs flows k flow.within in
          omega (arith, le, within, room, is.capacities, all)
    ]
    in
    let least : min s.room limit ≡ s.room = omega arith in
    bottleneck_up_to-min s.room limit path ∙ ap (λ m. bottleneck_up_to m path) least

-- The search has flows that augmenting along least paths reaches, and this is their value.
pub record IsSolving (s : NetworkState) (search : Searched) (value : ℕ) : Type 0 where
  pub flows : List ℕ
  pub reached : IsReached s flows
  pub kept : KeepLoops s.network s.flows flows
  pub search_is : search ≡ residual_search s.network flows
  pub value_is : pos value ≡ flow_value s.network flows

-- There is one more pair than there are arcs.
pub solving-long : (s : NetworkState) (search : Searched) (value : ℕ) → IsSolving s search value → length search.pairs ≡ length s.network.arcs + 1
solving-long s search value is =
    ap (λ (o : Searched). length o.pairs) is.search_is
    ∙ length-network_pairs s.network is.flows (AllZip-long _ s.network.arcs is.flows is.reached.state.flow.within)

-- The search augments. The value grows by the amount, and the rooms of the links that leave the source fall.
pub record IsNext (s : NetworkState) (old new : Searched) (value : ℕ) : Type 0 where
  pub solving : IsSolving s new value
  pub small : value < 2 ^ 64
  pub falls : room_leaving new.pairs s.network.source < room_leaving old.pairs s.network.source

-- one more path
pub solving-more : (s : NetworkState) (limit value : ℕ) (found : AugmentingPath) (old new : Searched) → limit + 1 ≡ 2 ^ 64 → IsSolving s old value
    → Augments limit found old new → IsNext s old new (value + found.amount)
solving-more s limit value found old new all is augments =
    let n = s.network in
    let state = is.reached.state in
    let push = subst (λ o. Augments limit found o new) is.search_is augments in
    let path = push.path in
    let least = search-least n is.flows path _ refl push.least in
    let same = push.amount_is ∙ bottleneck_up_to-least n is.flows limit path all state.network state.flow least.leads in
    let pairs =
    ap (λ m. pushed_pairs true m path (network_pairs n is.flows)) same
    ∙ sym (network_pairs-augmented n is.flows n.source n.sink path state.flow.within least.leads)
    in
    let next = push.gives ∙ ap (λ (made : List (Option Pair)). record { nodes = n.nodes; pairs = made; start = n.source; goal = n.sink; takes_back = true })
    pairs in
    let reached = reached-more s is.flows path is.reached least in
    let grown = augmented-value n is.flows path state.network state.flow least in
    let value_is : pos (value + found.amount) ≡ flow_value n (augmented path is.flows) = omega (arith, ints, grown, is.value_is, same) in
    let most = value-le-capacities n (augmented path is.flows) reached.state.flow in
    record {
      solving = record {
        flows = augmented path is.flows;
        reached = reached;
        kept = kept-augmented n s.flows is.flows path state.flow.within push.least.leads is.kept;
        search_is = next;
        value_is = value_is;
      };
      small = omega (arith, ints, value_is, most, state.network.capacities);
      falls = rw (next, is.search_is) (room_leaving-falls s is.flows path state reached.state least);
    }

-- The search has no path left, and does not change any more.
module _ (s : NetworkState) (value : ℕ) (old new : Searched) (state : IsState s) (is : IsSolving s old value)
    (none : HasNoPath (steps_of old.pairs) old.start old.goal) (same : new ≡ old) where
  -- The flows that are read from it are those that it has reached.
  pub solving-read : is.flows ≡ reached_flows s new
  solving-read =
      sym (ap (reached_flows s) (same ∙ is.search_is) ∙ read-flows by_residual_pair s.network s.flows is.flows (closed_return s.network ∷ [])
      (AllZip-long _ s.network.arcs s.flows state.flow.within) (AllZip-long _ s.network.arcs is.flows is.reached.state.flow.within) is.kept)

  -- They are the outcome of solving.
  abbrev solving-solves : Solves s.network s.flows is.flows
  solving-solves = record { paths = is.reached.paths; augments = is.reached.augments; no_path = search-no_path s.network is.flows old is.search_is none }

-- The search has reached the outcome of solving.
pub solving-done : (s : NetworkState) (solved : SolvedSearch) (old : Searched) → IsState s → IsSolving s old solved.value
    → HasNoPath (steps_of old.pairs) old.start old.goal → solved.search ≡ old
    → KeepsUntouched solved.touched (network_pairs s.network s.flows) solved.search.pairs → AreBelow (length s.network.arcs + 1) solved.touched
    → IfSome solved.touched IsStrictlyIncreasing → HasSolved s solved
solving-done s solved old state is none same kept below ascend =
    let n = s.network in
    let read = solving-read s solved.value old solved.search state is none same in
    record {
      solves = subst (Solves n s.flows) read (solving-solves s solved.value old solved.search state is none same);
      state = subst (λ flows. IsState (with_flows s flows)) read is.reached.state;
      search_is = subst (λ flows. solved.search ≡ residual_search n flows) read (same ∙ is.search_is);
      value_is = subst (λ flows. pos solved.value ≡ flow_value n flows) read is.value_is;
      kept = kept;
      below = below;
      ascend = ascend;
    }

module _ (s : NetworkState) (search : Searched) (state : IsState s) (is : search ≡ residual_search s.network (reached_flows s search))
    (within : AreWithinCapacities s.network.arcs (reached_flows s search)) where
  -- There is an entry for a pair for each flow, and one more,
  pub pairs-long : length search.pairs ≡ length s.flows + 1
  pairs-long =
      ap (λ (o : Searched). length o.pairs) is
      ∙ length-network_pairs s.network (reached_flows s search) (AllZip-long _ s.network.arcs (reached_flows s search) within)
      ∙ ap (λ count. count + 1) (sym (AllZip-long _ s.network.arcs s.flows state.flow.within))

  -- and a flow that is reached.
  pub reached-long : length (reached_flows s search) ≡ length s.flows
  reached-long = let long = pairs-long in length-flows_read Against s.flows search.pairs (omega (arith, long))
