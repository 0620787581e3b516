-- The sums of the flows at the nodes.
-- Private: only contracts inside the crate and proofs use this.
use Rattle.std.specs.Prelude.{ℕ, ◌≡◌, ◌≢◌, ◌+◌, ◌-◌, ◌<◌, ◌≤◌, List, length, EachIndex, slice_index, slice_get, Some}
use Rattle.dmf_state.specs.declared.arc.Arc.{Arc}
use Rattle.dmf_state.specs.declared.flow_sums.NodeFlow.{NodeFlow}
use Rattle.dmf_state.specs.Network.{Network}
use Rattle.dmf_state.specs.Flow.{flow_at, outflow, inflow, IsInnerNode, IsConservedAt}

-- The two numbers are the outflow and the inflow of node `v`.
pub record IsNodeFlow (arcs : List Arc) (flows : List ℕ) (v : ℕ) (sums : NodeFlow) : Type 0 where
  pub leaving : sums.leaving ≡ outflow arcs flows v
  pub entering : sums.entering ≡ inflow arcs flows v

-- For each node, from node 1 on, the list has the sum of the flows of the arcs that have the node at this end.
pub record AreFlowSums (end : Arc → ℕ) (nodes : ℕ) (arcs : List Arc) (flows sums : List ℕ) : Type 0 where
  pub one_each : length sums ≡ nodes
  pub each : EachIndex sums (λ k. slice_index sums k ≡ flow_at end arcs flows (k + 1))

-- `k` has the property, and no smaller number has.
pub record IsLeast (P : ℕ → Type 0) (k : ℕ) : Type 0 where
  pub holds : P k
  pub least : (i : ℕ) → i < k → ¬ P i

-- The flow on arc number `j` exceeds its capacity.
pub record IsOverCapacity (arcs : List Arc) (flows : List ℕ) (j : ℕ) : Type 0 where
  pub from_one : 1 ≤ j
  pub arc : Arc
  pub flow : ℕ
  pub arc_is : slice_get arcs (j - 1) ≡ Some arc
  pub flow_is : slice_get flows (j - 1) ≡ Some flow
  pub over : arc.cap < flow

-- Outflow and inflow of the inner node `v` differ.
pub record IsUnbalanced (n : Network) (flows : List ℕ) (v : ℕ) : Type 0 where
  pub inner : IsInnerNode n v
  pub differ : ¬ IsConservedAt n flows v

-- `v` is one of the nodes 1 to `last` other than the source and the sink.
pub record IsInnerUpTo (last source sink v : ℕ) : Type 0 where
  pub from_one : 1 ≤ v
  pub to_last : v ≤ last
  pub not_source : v ≢ source
  pub not_sink : v ≢ sink

-- The two sums at node `v` are the same.
abbrev pub AreSameAt : List ℕ → List ℕ → ℕ → Type 0
AreSameAt leaving entering v = slice_index leaving (v - 1) ≡ slice_index entering (v - 1)

-- At the inner node `v` the two sums differ.
pub record DifferAt (source sink : ℕ) (leaving entering : List ℕ) (v : ℕ) : Type 0 where
  pub inner : IsInnerUpTo (length leaving) source sink v
  pub differ : ¬ AreSameAt leaving entering v
