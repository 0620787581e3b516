-- Flows of a network, as the textbooks have them (Ahuja, Magnanti and Orlin, Network Flows, section 1.2 and
-- chapter 6). A flow is a list of numbers, one for each arc.
-- Public: a public contract says no more than this.
use Rattle.std.specs.Prelude.{ℕ, ◌≡◌, ◌≢◌, ◌-◌, ◌≤◌, ◌==◌, if◌then◌else◌, List, slice_index, sum_by, ℤ, pos, ◌-ℤ◌}
use Rattle.std.specs.List.{zip, AllZip}
use Rattle.dmf_state.specs.declared.arc.Arc.{Arc}
use Rattle.dmf_node.specs.Node.{IsNode}
use Rattle.dmf_state.specs.Network.{Network}

-- the flow on arc number `j`
abbrev pub flow_on : List ℕ → ℕ → ℕ
flow_on flows j = slice_index flows (j - 1)

-- the sum of the flows on the arcs of these numbers
abbrev pub flow_on_all : List ℕ → List ℕ → ℕ
flow_on_all flows numbers = sum_by (flow_on flows) numbers

-- the sum of the flows of the arcs that have node `v` at this end, which is the tail or the head
abbrev pub flow_at : (Arc → ℕ) → List Arc → List ℕ → ℕ → ℕ
flow_at end arcs flows v = sum_by (λ p. if end p.0 == v then p.1 else 0) (zip arcs flows)

-- the outflow of node `v`
abbrev pub outflow : List Arc → List ℕ → ℕ → ℕ
outflow arcs flows v = flow_at (λ arc. arc.tail) arcs flows v

-- the inflow of node `v`
abbrev pub inflow : List Arc → List ℕ → ℕ → ℕ
inflow arcs flows v = flow_at (λ arc. arc.head) arcs flows v

-- There is one flow for each arc, and it is within the arc's capacity.
abbrev pub AreWithinCapacities : List Arc → List ℕ → Type 0
AreWithinCapacities arcs flows = AllZip (λ arc flow. flow ≤ arc.cap) arcs flows

-- The outflow of node `v` is its inflow.
abbrev pub IsConservedAt : Network → List ℕ → ℕ → Type 0
IsConservedAt n flows v = outflow n.arcs flows v ≡ inflow n.arcs flows v

-- `v` is a node other than the source and the sink.
pub record IsInnerNode (n : Network) (v : ℕ) : Type 0 where
  pub node : IsNode n.nodes v
  pub not_source : v ≢ n.source
  pub not_sink : v ≢ n.sink

-- A flow of the network is within the capacities, and is conserved at each inner node.
pub record IsFlow (n : Network) (flows : List ℕ) : Type 0 where
  pub within : AreWithinCapacities n.arcs flows
  pub conserved : (v : ℕ) → IsInnerNode n v → IsConservedAt n flows v

-- the value of a flow: the outflow of the source minus its inflow, so it may be negative
abbrev pub flow_value : Network → List ℕ → ℤ
flow_value n flows = pos (outflow n.arcs flows n.source) -ℤ pos (inflow n.arcs flows n.source)
