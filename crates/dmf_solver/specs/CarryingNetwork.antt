-- The network that carries a flow, as pairs of opposite links: one pair for each arc, and one for the return link. Draining looks for
-- paths over these links.
-- Public: a public contract says no more than this.
use Rattle.std.specs.Prelude.{ℕ, ◌≡◌, ◌==◌, false, if◌then◌else◌, List, [], ◌∷◌, ◌++◌, Option, Some, None}
use Rattle.dmf_links.specs.declared.pair.Pair.{Pair}
use Rattle.dmf_path.specs.Search.{Searched}
use Rattle.dmf_state.specs.declared.arc.Arc.{Arc}
use Rattle.dmf_state.specs.Network.{Network}
use Rattle.dmf_state.specs.NetworkState.{NetworkState}
use Rattle.dmf_solver.specs.Drain.{value_or_zero}

-- The pair of an arc for its carrying step: the room along it is the flow on the arc. A self loop has no pair; an arc without flow has
-- a pair without room.
abbrev pub carrying_pair : Arc → ℕ → Option Pair
carrying_pair arc flow =
    if arc.tail == arc.head then None
    else Some (record { tail = arc.tail; head = arc.head; along = flow; against = 0 })

-- the pairs of the arcs, in order
abbrev pub carrying_from : List Arc → List ℕ → List (Option Pair)
carrying_from [] flows = []
carrying_from (arc ∷ arcs) [] = []
carrying_from (arc ∷ arcs) (flow ∷ flows) = carrying_pair arc flow ∷ carrying_from arcs flows

-- the pair of the return link with this room
abbrev pub return_of : Network → ℕ → Option Pair
return_of n room = Some (record { tail = n.sink; head = n.source; along = room; against = 0 })

-- the pair of the return link of a flow
abbrev pub return_pair : Network → List ℕ → Option Pair
return_pair n flows = return_of n (value_or_zero n flows)

-- the pairs for all carrying steps of a flow
abbrev pub carrying_pairs : Network → List ℕ → List (Option Pair)
carrying_pairs n flows = carrying_from n.arcs flows ++ return_pair n flows ∷ []

-- The search is over the steps of the arcs that carry the state's flow, and over a return link with this room, between any two ends. It
-- does not take back what it pushes.
pub record CarriesWith (s : NetworkState) (room : ℕ) (search : Searched) : Type 0 where
  pub nodes_are : search.nodes ≡ s.network.nodes
  pub pairs_are : search.pairs ≡ carrying_from s.network.arcs s.flows ++ return_of s.network room ∷ []
  pub takes_none_back : search.takes_back ≡ false

-- The search is over the carrying steps of the state's flow.
abbrev pub IsCarryingOf : NetworkState → Searched → Type 0
IsCarryingOf s search = CarriesWith s (value_or_zero s.network s.flows) search

-- The search is over the steps of the arcs that carry the state's flow; its return link has any room.
abbrev pub MayCarry : NetworkState → Searched → Type 0
MayCarry s search = (room : ℕ) × CarriesWith s room search
