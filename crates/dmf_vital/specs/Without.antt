-- Networks that differ from another in one part: an arc or a node is out of use, or an arc has a second one beside it.
-- Public: a public contract says no more than this.
use Rattle.std.specs.Prelude.{ℕ, ◌==◌, ◌||◌, if◌then◌else◌, map}
use Rattle.dmf_state.specs.declared.arc.Arc.{Arc}
use Rattle.dmf_state.specs.Arc.{closed_arc, open_arc}
use Rattle.dmf_state.specs.Network.{Network, arc_number, with_arc}
use Rattle.dmf_state.specs.NetworkState.{with_last_arc}

-- the network in which arc number `j` is closed
abbrev pub without_arc : Network → ℕ → Network
without_arc n j = with_arc n j (closed_arc (arc_number n j))

-- the arc, closed if node `v` is its tail or its head
abbrev pub shut_arc : ℕ → Arc → Arc
shut_arc v arc = if arc.tail == v || arc.head == v then closed_arc arc else arc

-- the network in which the arcs number `i` and `j` are closed
abbrev pub without_pair : Network → ℕ → ℕ → Network
without_pair n i j = without_arc (without_arc n i) j

-- the network in which node `v` is shut: the arcs at it are closed
abbrev pub without_node : Network → ℕ → Network
without_node n v = record { nodes = n.nodes; source = n.source; sink = n.sink; arcs = map (shut_arc v) n.arcs }

-- the network with one more arc, the last: an open arc with the tail, the head and the capacity of this arc
abbrev pub with_new_arc : Network → Arc → Network
with_new_arc n arc = with_last_arc n (open_arc arc.tail arc.head arc.cap)

-- the network with a second arc beside arc number `j`, from the same tail to the same head and of the same capacity
abbrev pub with_second : Network → ℕ → Network
with_second n j = with_new_arc n (arc_number n j)
