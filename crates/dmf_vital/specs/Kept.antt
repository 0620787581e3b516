-- Sets of nodes that show what an arc or a node has to carry.
-- Public: a public contract says no more than this.
use Rattle.std.specs.Prelude.{ℕ, ◌≡◌, ◌≢◌, ◌+◌, ◌*◌, ◌<◌, Bool, true, false, List, Contains}
use Rattle.dmf_node.specs.Node.{IsNode}
use Rattle.dmf_path.specs.Step.{Step}
use Rattle.dmf_state.specs.Flow.{flow_on}
use Rattle.dmf_state.specs.Network.{Network, arc_number, has_arc}
use Rattle.dmf_solver.specs.Residual.{residual_steps}

-- A set of nodes has the tail of arc number `j` and not its head, and no residual step but those of this arc leads out of it. So no
-- more of the arc's flow can go another way. A set is given by its test: whether it has a node.
pub record HoldsTail (n : Network) (flows : List ℕ) (j : ℕ) (has : ℕ → Bool) : Type 0 where
  pub of_nodes : (v : ℕ) → has v ≡ true → IsNode n.nodes v
  pub tail : has (arc_number n j).tail ≡ true
  pub head : has (arc_number n j).head ≡ false
  pub none_leaves : (step : Step) → Contains (residual_steps n.arcs flows) step → step.rank ≢ 2 * j → step.rank ≢ 2 * j + 1
      → has step.from ≡ true → has step.to ≡ true

-- A set has node `v` and none of the other nodes to which an arc from it carries something, and no residual step but those of arcs from
-- `v` leads out of it. So no more of what flows through the node can go another way.
pub record HoldsNode (n : Network) (flows : List ℕ) (v : ℕ) (has : ℕ → Bool) : Type 0 where
  pub of_nodes : (u : ℕ) → has u ≡ true → IsNode n.nodes u
  pub node : has v ≡ true
  pub heads : (i : ℕ) → has_arc n i ≡ true → (arc_number n i).tail ≡ v → (arc_number n i).head ≢ v → 0 < flow_on flows i → has (arc_number n i).head ≡ false
  pub none_leaves : (step : Step) → Contains (residual_steps n.arcs flows) step
      → ((i : ℕ) → has_arc n i ≡ true → (arc_number n i).tail ≡ v → (step.rank ≢ 2 * i) × (step.rank ≢ 2 * i + 1))
      → has step.from ≡ true → has step.to ≡ true
