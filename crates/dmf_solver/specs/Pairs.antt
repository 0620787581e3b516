-- The pairs of links among which a search looks for paths.
-- Private: only contracts inside the crate and proofs use this.
use Rattle.std.specs.Prelude.{ℕ, ◌≡◌, ◌-◌, ◌<◌, ◌↔◌, length, slice_index, slice_index_or, slice_set, List, [], ◌∷◌}
use Rattle.std.specs.Prelude.{Option, option_map, IfSome, IsTrue, pos, ◌+◌}
use Rattle.std.specs.Option.{unwrap_or}
use Rattle.std.specs.List.Sorted.{IsStrictlyIncreasing}
use Rattle.dmf_links.specs.declared.pair.Pair.{Pair}
use Rattle.dmf_node.specs.Node.{IsNode}
use Rattle.dmf_path.specs.Pair.{steps_of}
use Rattle.dmf_path.specs.Touched.{AreBelow, KeepsUntouched}
use Rattle.dmf_path.specs.Path.{IsReachable}
use Rattle.dmf_path.specs.Search.{Searched, pair_with}
use Rattle.dmf_links.specs.Pair.{pair_number}
use Rattle.dmf_state.specs.declared.arc.Arc.{Arc}
use Rattle.dmf_state.specs.declared.edit.Shutting.{Shutting}
use Rattle.dmf_state.specs.Arc.{no_arc}
use Rattle.dmf_solver.specs.declared.solve.SolvedSearch.{SolvedSearch}
use Rattle.dmf_state.specs.Network.{Network}
use Rattle.dmf_state.specs.Flow.{flow_value}
use Rattle.dmf_state.specs.NetworkState.{NetworkState, IsState, with_flows}
use Rattle.dmf_solver.specs.ResidualNetwork.{network_pairs, residual_search}
use Rattle.dmf_solver.specs.Solve.{Solves}
use Rattle.dmf_state.specs.Side.{CutSide, has_node}
use Rattle.dmf_solver.specs.CarryingNetwork.{IsCarryingOf}

-- one of the two links of a pair
pub data PairLink : Type 0 where
  Along : PairLink
  Against : PairLink

-- the room of that link of a pair
abbrev pub room_of : PairLink → Pair → ℕ
room_of Along = λ p. p.along
room_of Against = λ p. p.against

-- the flow on an arc: the room of that link of its pair or, without a pair, its flow at first
abbrev pub flow_read : PairLink → ℕ → Option Pair → ℕ
flow_read link first pair = unwrap_or (option_map (room_of link) pair) first

-- the flows on the arcs, in order
abbrev pub flows_read : PairLink → List ℕ → List (Option Pair) → List ℕ
flows_read link [] pairs = []
flows_read link (first ∷ firsts) [] = []
flows_read link (first ∷ firsts) (pair ∷ pairs) = flow_read link first pair ∷ flows_read link firsts pairs

-- The other list has the flow on self loops.
abbrev pub KeepLoops : Network → List ℕ → List ℕ → Type 0
KeepLoops n others flows =
    (k : ℕ) → k < length n.arcs → (slice_index_or n.arcs k no_arc).tail ≡ (slice_index_or n.arcs k no_arc).head
    → slice_index flows k ≡ slice_index others k

-- The search is over the carrying steps of these flows. The list has a number for each arc: the flow, if the arc has no pair.
pub record Carries (s : NetworkState) (unpaired flows : List ℕ) (search : Searched) : Type 0 where
  pub state : IsState (with_flows s flows)
  pub listed : length unpaired ≡ length s.network.arcs
  pub loops : KeepLoops s.network unpaired flows
  pub search_is : IsCarryingOf (with_flows s flows) search

-- The search is over the carrying steps of the flows that are read from it and from the list.
abbrev pub IsCarryingSearch : NetworkState → List ℕ → Searched → Type 0
IsCarryingSearch s unpaired search = Carries s unpaired (flows_read Along unpaired search.pairs) search

-- the flows, without the flow on these arcs
abbrev pub flows_without : List Shutting → List ℕ → List ℕ
flows_without [] flows = flows
flows_without (a ∷ arcs) flows = flows_without arcs (slice_set flows (a.arc - 1) 0)

-- the flows that a search over carrying steps has reached from the state's, if these arcs are drained to 0
abbrev pub drained_flows : NetworkState → List Shutting → Searched → List ℕ
drained_flows s shut search = flows_read Along (flows_without shut s.flows) search.pairs

-- the flows that a search for augmenting paths has reached from the state's
abbrev pub reached_flows : NetworkState → Searched → List ℕ
reached_flows s search = flows_read Against s.flows search.pairs

-- a pair with the room along it that a new capacity leaves
abbrev pub recapped : ℕ → Pair → Pair
recapped cap p = pair_with (cap - p.against) p.against p

-- the pairs, with the new capacity at index `k`, if there is a pair
abbrev pub with_capacity : List (Option Pair) → ℕ → ℕ → List (Option Pair)
with_capacity pairs k cap = slice_set pairs k (option_map (recapped cap) (pair_number pairs k))

-- The arc at index `k` with the flow on it.
pub record IsArcAt (s : NetworkState) (k : ℕ) (at : Arc × ℕ) : Type 0 where
  pub within : k < length s.network.arcs
  pub arc_is : at.0 ≡ slice_index_or s.network.arcs k no_arc
  pub flow_is : at.1 ≡ slice_index s.flows k

-- The search for augmenting paths has reached the outcome of solving, whose value is this. Each pair that is not touched is as it was,
-- and the list of the touched ones, if there is one, is ascending.
pub record HasSolved (s : NetworkState) (solved : SolvedSearch) : Type 0 where
  pub solves : Solves s.network s.flows (reached_flows s solved.search)
  pub state : IsState (with_flows s (reached_flows s solved.search))
  pub search_is : solved.search ≡ residual_search s.network (reached_flows s solved.search)
  pub value_is : pos solved.value ≡ flow_value s.network (reached_flows s solved.search)
  pub kept : KeepsUntouched solved.touched (network_pairs s.network s.flows) solved.search.pairs
  pub below : AreBelow (length s.network.arcs + 1) solved.touched
  pub ascend : IfSome solved.touched IsStrictlyIncreasing

-- The search has reached the outcome of solving, whose value is this, whatever pairs were touched.
abbrev pub IsAtEnd : NetworkState → Searched → ℕ → Type 0
IsAtEnd s search value = (touched : Option (List ℕ)) × HasSolved s (record { search = search; value = value; touched = touched })

-- The side has the nodes to which paths of the search lead, and no others, in ascending order, and this capacity.
pub record IsReachedSide (search : Searched) (capacity : ℕ) (side : CutSide) : Type 0 where
  pub capacity_is : side.capacity ≡ capacity
  pub ascending : IsStrictlyIncreasing side.ids
  pub nodes : (v : ℕ) → IsTrue (has_node side.ids v) ↔ (IsNode search.nodes v × IsReachable (steps_of search.pairs) search.start v)
