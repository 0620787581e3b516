-- The nodes that a search has reached from both ends: ahead, from the node that the exits leave, and behind, from the nodes that they enter.
-- It uses the residual steps over other arcs that lead between nodes of one rank.
-- Private: only contracts inside the crate and proofs use this.
use Rattle.std.specs.Prelude.{ℕ, ◌≡◌, ◌≢◌, ◌⊎◌, ◌+◌, ◌-◌, ◌<◌, ◌≤◌, Bool, false, true, List, length, slice_index, slice_index_or}
use Rattle.dmf_node.specs.Node.{IsNode}
use Rattle.dmf_state.specs.Flow.{flow_on}
use Rattle.dmf_state.specs.Network.{Network, arc_number, has_arc}
use Rattle.dmf_vital.specs.declared.exits.Exits.{Exits}
use Rattle.dmf_vital.specs.declared.hop.Hop.{Hop}
use Rattle.dmf_vital.specs.declared.tree.Reached.{Reached}
use Rattle.dmf_vital.specs.Exits.{is_barred, is_exit}
use Rattle.dmf_vital.specs.Hop.{from_of, to_of, room_of, turned}
use Rattle.dmf_vital.specs.Ranks.{is_across}

-- what a read past the last node gives
abbrev pub not_reached : Reached
not_reached = record { place = 0; hop = record { arc = 0; against = false }; width = 0; back = false }

-- what the search knows of node `v`
abbrev pub at_node : List Reached → ℕ → Reached
at_node nodes v = slice_index_or nodes (v - 1) not_reached

-- the place of node `v` in the order in which nodes were reached; 0 if it was not
abbrev pub place_of : List Reached → ℕ → ℕ
place_of nodes v = (at_node nodes v).place

-- whether node `v` was reached from behind
abbrev pub back_of : List Reached → ℕ → Bool
back_of nodes v = (at_node nodes v).back

-- The second list has the reached nodes in the order of their places.
pub record AreListed (count : ℕ) (nodes : List Reached) (found : List ℕ) : Type 0 where
  pub one_each : length nodes ≡ count
  pub listed : (i : ℕ) → i < length found → IsNode count (slice_index found i) × (place_of nodes (slice_index found i) ≡ i + 1)
  pub placed : (v : ℕ) → IsNode count v → 0 < place_of nodes v
      → (place_of nodes v ≤ length found) × (slice_index found (place_of nodes v - 1) ≡ v)

-- the residual capacity of the step over arc number `i` that a search goes over
abbrev pub room_over : Network → List ℕ → Bool → Bool → ℕ → ℕ
room_over n flows back against i = room_of (turned back against) (arc_number n i) (flow_on flows i)

-- Node `v` is where the search began: the node that the exits leave, or the head of an exit between nodes of one rank, over which flows
-- what the width says.
pub record IsBegun (n : Network) (flows : List ℕ) (e : Exits) (v : ℕ) (by : Reached) : Type 0 where
  pub ahead : by.back ≡ false → v ≡ e.node
  pub is_there : by.back ≡ true → has_arc n by.hop.arc ≡ true
  pub exit : by.back ≡ true → is_exit n e by.hop.arc ≡ true
  pub level : by.back ≡ true → is_across e.ranks.now (arc_number n by.hop.arc) ≡ false
  pub enters : by.back ≡ true → (arc_number n by.hop.arc).head ≡ v
  pub carries : by.back ≡ true → by.width ≤ flow_on flows by.hop.arc

-- Node `v` was reached by a step with room, over an arc that is not barred, from a node that was reached before from the same end. Over
-- all steps up to it its width can be sent.
pub record IsReachedBy (n : Network) (flows : List ℕ) (e : Exits) (nodes : List Reached) (v : ℕ) (by : Reached) : Type 0 where
  pub is_there : has_arc n by.hop.arc ≡ true
  pub other : is_barred n e by.hop.arc ≡ false
  pub leads_to : to_of by.hop.against (arc_number n by.hop.arc) ≡ v
  pub from_reached : 0 < place_of nodes (from_of by.hop.against (arc_number n by.hop.arc))
  pub from_before : place_of nodes (from_of by.hop.against (arc_number n by.hop.arc)) < by.place
  pub same_end : back_of nodes (from_of by.hop.against (arc_number n by.hop.arc)) ≡ by.back
  pub narrows : by.width ≤ (at_node nodes (from_of by.hop.against (arc_number n by.hop.arc))).width
  pub fits : by.width ≤ room_over n flows by.back by.hop.against by.hop.arc

-- The search has reached the node that the exits leave, and each other node by such a step.
pub record IsGrown (n : Network) (flows : List ℕ) (e : Exits) (nodes : List Reached) (found : List ℕ) : Type 0 where
  pub are : AreListed n.nodes nodes found
  pub root : 0 < place_of nodes e.node
  pub ahead : back_of nodes e.node ≡ false
  pub wide : (v : ℕ) → IsNode n.nodes v → 0 < place_of nodes v → 0 < (at_node nodes v).width
  pub steps : (v : ℕ) → IsNode n.nodes v → 0 < place_of nodes v
      → IsBegun n flows e v (at_node nodes v) ⊎ IsReachedBy n flows e nodes v (at_node nodes v)

-- Arc number `i` enters a node that was reached from behind, if it is an exit that carries something between nodes of one rank.
abbrev pub IsEntered : Network → List ℕ → Exits → List Reached → ℕ → Type 0
IsEntered n flows e nodes i =
    has_arc n i ≡ true → is_exit n e i ≡ true → 0 < flow_on flows i → is_across e.ranks.now (arc_number n i) ≡ false
    → (0 < place_of nodes (arc_number n i).head) × (back_of nodes (arc_number n i).head ≡ true)

-- So do all of these exits.
abbrev pub AreEntered : Network → List ℕ → Exits → List Reached → Type 0
AreEntered n flows e nodes = (i : ℕ) → IsEntered n flows e nodes i

-- Each node but the one that the exits leave was reached from behind.
abbrev pub AreBehind : Network → Exits → List Reached → Type 0
AreBehind n e nodes = (v : ℕ) → IsNode n.nodes v → 0 < place_of nodes v → back_of nodes v ≡ false → v ≡ e.node

-- Of each node that was reached before the same is known.
abbrev pub KeepsReached : List Reached → List Reached → Type 0
KeepsReached before after = (v : ℕ) → 0 < place_of before v → at_node after v ≡ at_node before v

-- A step over arc number `i` leads to a node that was reached from this end, if it has room, leads from node `v` and the arc is not barred.
abbrev pub LeadsToReached : Network → List ℕ → Exits → List Reached → Bool → Bool → ℕ → ℕ → Type 0
LeadsToReached n flows e nodes back against v i =
    has_arc n i ≡ true → is_barred n e i ≡ false → from_of against (arc_number n i) ≡ v → 0 < room_over n flows back against i
    → (0 < place_of nodes (to_of against (arc_number n i))) × (back_of nodes (to_of against (arc_number n i)) ≡ back)

-- All these steps from node `v` do.
abbrev pub IsExpanded : Network → List ℕ → Exits → List Reached → Bool → ℕ → Type 0
IsExpanded n flows e nodes back v = (against : Bool) (i : ℕ) → LeadsToReached n flows e nodes back against v i

-- All nodes that were reached from this end are expanded, up to a place.
abbrev pub AreExpanded : Network → List ℕ → Exits → List Reached → Bool → ℕ → Type 0
AreExpanded n flows e nodes back last =
    (v : ℕ) → IsNode n.nodes v → 0 < place_of nodes v → back_of nodes v ≡ back → place_of nodes v ≤ last → IsExpanded n flows e nodes back v

-- A step with room leads from a node that was reached from one end to one that was reached from the other.
pub record IsBridge (n : Network) (flows : List ℕ) (e : Exits) (nodes : List Reached) (back : Bool) (hop : Hop) : Type 0 where
  pub is_there : has_arc n hop.arc ≡ true
  pub other : is_barred n e hop.arc ≡ false
  pub room : 0 < room_over n flows back hop.against hop.arc
  pub from_reached : 0 < place_of nodes (from_of hop.against (arc_number n hop.arc))
  pub from_end : back_of nodes (from_of hop.against (arc_number n hop.arc)) ≡ back
  pub to_reached : 0 < place_of nodes (to_of hop.against (arc_number n hop.arc))
  pub to_end : back_of nodes (to_of hop.against (arc_number n hop.arc)) ≢ back

-- What came of a step: it is a bridge, or it leads to a reached node.
abbrev pub IsStepped : Network → List ℕ → Exits → List Reached → Bool → Hop → Bool → Type 0
IsStepped n flows e nodes back hop true = IsBridge n flows e nodes back hop
IsStepped n flows e nodes back hop false =
    LeadsToReached n flows e nodes back hop.against (from_of hop.against (arc_number n hop.arc)) hop.arc

-- What came of the steps from node `v` in one direction: the one over the arc of this number is a bridge; if it is 0, all lead to reached nodes.
pub record IsLooked (n : Network) (flows : List ℕ) (e : Exits) (nodes : List Reached) (back against : Bool) (v met : ℕ) : Type 0 where
  pub none : met ≡ 0 → (i : ℕ) → LeadsToReached n flows e nodes back against v i
  pub some : met ≢ 0 → IsBridge n flows e nodes back (record { arc = met; against = against })

-- A step with room leads from a node that was reached ahead to one that was reached from behind.
pub record IsCrossing (n : Network) (flows : List ℕ) (e : Exits) (nodes : List Reached) (hop : Hop) : Type 0 where
  pub is_there : has_arc n hop.arc ≡ true
  pub other : is_barred n e hop.arc ≡ false
  pub room : 0 < room_of hop.against (arc_number n hop.arc) (flow_on flows hop.arc)
  pub from_reached : 0 < place_of nodes (from_of hop.against (arc_number n hop.arc))
  pub from_ahead : back_of nodes (from_of hop.against (arc_number n hop.arc)) ≡ false
  pub to_reached : 0 < place_of nodes (to_of hop.against (arc_number n hop.arc))
  pub to_behind : back_of nodes (to_of hop.against (arc_number n hop.arc)) ≡ true

-- A search has ended: both ends have met in this step, or all nodes that were reached from one end are expanded.
pub record HasSearched (n : Network) (flows : List ℕ) (e : Exits) (nodes : List Reached) (hop : Hop) : Type 0 where
  pub entered : AreEntered n flows e nodes
  pub some : hop.arc ≢ 0 → IsCrossing n flows e nodes hop
  pub none : hop.arc ≡ 0 → (back : Bool) × ((v : ℕ) → IsNode n.nodes v → 0 < place_of nodes v → back_of nodes v ≡ back → IsExpanded n flows e nodes back v)
