-- The residual network as pairs of opposite links, over which solving looks for paths: one pair for each arc, and one for the return
-- link.
-- Public: a public contract says no more than this.
use Rattle.std.specs.Prelude.{ℕ, ◌≡◌, ◌-◌, ◌==◌, true, if◌then◌else◌, List, [], ◌∷◌, ◌++◌, Option, Some, None}
use Rattle.dmf_links.specs.declared.pair.Pair.{Pair}
use Rattle.dmf_path.specs.Search.{Searched}
use Rattle.dmf_state.specs.declared.arc.Arc.{Arc}
use Rattle.dmf_state.specs.Network.{Network}
use Rattle.dmf_state.specs.NetworkState.{NetworkState}

-- The pair of an arc for its residual steps: the room along it is the residual capacity, and the room against it is the flow. A self
-- loop has no pair; a closed arc has a pair without room.
abbrev pub residual_pair : Arc → ℕ → Option Pair
residual_pair arc flow =
    if arc.tail == arc.head then None
    else Some (record { tail = arc.tail; head = arc.head; along = arc.cap - flow; against = flow })

-- the pairs of the arcs, in order
abbrev pub residual_pairs : List Arc → List ℕ → List (Option Pair)
residual_pairs [] flows = []
residual_pairs (arc ∷ arcs) [] = []
residual_pairs (arc ∷ arcs) (flow ∷ flows) = residual_pair arc flow ∷ residual_pairs arcs flows

-- The pair of the return link, from the sink to the source. It has no room, so no augmenting path uses it.
abbrev pub closed_return : Network → Option Pair
closed_return n = Some (record { tail = n.sink; head = n.source; along = 0; against = 0 })

-- the pairs of the arcs, and after them that of the return link
abbrev pub network_pairs : Network → List ℕ → List (Option Pair)
network_pairs n flows = residual_pairs n.arcs flows ++ closed_return n ∷ []

-- the search for augmenting paths: from the source to the sink, where a push along an arc can be taken back
abbrev pub residual_search : Network → List ℕ → Searched
residual_search n flows =
    record { nodes = n.nodes; pairs = network_pairs n flows; start = n.source; goal = n.sink; takes_back = true }

-- The links are those of the state's residual network, with the rooms that its flow leaves.
abbrev pub IsResidualOf : NetworkState → Searched → Type 0
IsResidualOf s links = links ≡ residual_search s.network s.flows
