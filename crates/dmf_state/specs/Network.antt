-- Networks, as the textbooks have them (Ahuja, Magnanti and Orlin, Network Flows, chapter 6), with the limits
-- of this program.
-- Public: a public contract says no more than this.
use Rattle.std.specs.Prelude.{ℕ, ◌≢◌, ◌+◌, ◌-◌, ◌^◌, ◌<◌, ◌≤◌, Bool, ◌&&◌, nat_le, List, length, All, slice_index_or, slice_set}
use Rattle.dmf_state.specs.declared.arc.Arc.{Arc}
use Rattle.dmf_node.specs.Node.{IsNode}
use Rattle.dmf_state.specs.Arc.{IsArc, no_arc, capacity_sum}

-- A directed network: the nodes 1 to `nodes`, of which one is the source and one the sink, and a list of arcs.
-- Arc number `j` is the `j`-th of the list, counted from 1.
pub record Network : Type 0 where
  pub nodes : ℕ
  pub source : ℕ
  pub sink : ℕ
  pub arcs : List Arc

-- The conditions under which such a record is a network.
pub record IsNetwork (n : Network) : Type 0 where
  pub at_least_two_nodes : 2 ≤ n.nodes
  pub at_most_nodes : n.nodes ≤ 2 ^ 24
  pub source : IsNode n.nodes n.source
  pub sink : IsNode n.nodes n.sink
  pub two_terminals : n.source ≢ n.sink
  pub arcs : All (IsArc n.nodes) n.arcs
  pub at_most_arcs : length n.arcs ≤ 2 ^ 27
  pub capacities : capacity_sum n.arcs < 2 ^ 64

-- arc number `j`
abbrev pub arc_number : Network → ℕ → Arc
arc_number n j = slice_index_or n.arcs (j - 1) no_arc

-- whether there is an arc number `j`
abbrev pub has_arc : Network → ℕ → Bool
has_arc n j = nat_le 1 j && nat_le j (length n.arcs)

-- the network with this arc in place of arc number `j`
abbrev pub with_arc : Network → ℕ → Arc → Network
with_arc n j arc =
    record { nodes = n.nodes; source = n.source; sink = n.sink; arcs = slice_set n.arcs (j - 1) arc }

-- the sum of the capacities with `cap` in place of the capacity of arc number `j`
abbrev pub sum_with : Network → ℕ → ℕ → ℕ
sum_with n j cap = capacity_sum n.arcs - (arc_number n j).cap + cap
