-- Chains of the arcs over which steps lead from a node: the last of them, the one before it, and so on.
-- Private: only contracts inside the crate and proofs use this.
use Rattle.std.specs.Prelude.{ℕ, ◌≡◌, ◌≢◌, ◌+◌, ◌-◌, ◌<◌, Bool, List, length, slice_index, slice_index_or}
use Rattle.dmf_node.specs.Node.{IsNode}
use Rattle.dmf_state.specs.declared.arc.Arc.{Arc}
use Rattle.dmf_state.specs.Arc.{no_arc}
use Rattle.dmf_vital.specs.Hop.{from_of}

-- Of the arcs with numbers below the bound, number `j` is the last whose step leads from node `v`; 0 if there is none.
pub record IsLastBelow (against : Bool) (arcs : List Arc) (v bound j : ℕ) : Type 0 where
  pub below : j < bound
  pub own : 0 < j → from_of against (slice_index_or arcs (j - 1) no_arc) ≡ v
  pub none_between : (i : ℕ) → j < i → i < bound → from_of against (slice_index_or arcs (i - 1) no_arc) ≢ v

-- The first list has for each node the last arc whose step leads from it, and the second list for each arc the one before it whose step
-- leads from the same node.
pub record AreChains (against : Bool) (nodes : ℕ) (arcs : List Arc) (last before : List ℕ) : Type 0 where
  pub one_a_node : length last ≡ nodes
  pub one_an_arc : length before ≡ length arcs
  pub last_is : (v : ℕ) → IsNode nodes v → IsLastBelow against arcs v (length arcs + 1) (slice_index last (v - 1))
  pub before_is : (k : ℕ) → k < length arcs → IsLastBelow against arcs (from_of against (slice_index_or arcs k no_arc)) (k + 1) (slice_index before k)
