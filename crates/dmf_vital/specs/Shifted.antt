-- Flow that is moved from one way to another.
-- Private: only contracts inside the crate and proofs use this.
use Rattle.std.specs.Prelude.{ℕ, ◌≡◌, ◌≢◌, ◌⊎◌, ◌+◌, ◌*◌, ◌<◌, ◌≤◌, ◌==◌, Bool, true, false, if◌then◌else◌, List, Contains}
use Rattle.dmf_node.specs.Node.{IsNode}
use Rattle.dmf_state.specs.Flow.{flow_on, outflow, inflow, AreWithinCapacities}
use Rattle.dmf_state.specs.Network.{Network, IsNetwork, arc_number, has_arc}
use Rattle.dmf_state.specs.NetworkState.{NetworkState}
use Rattle.dmf_path.specs.Step.{Step}
use Rattle.dmf_solver.specs.Greatest.{IsGreatest}
use Rattle.dmf_solver.specs.Residual.{residual_steps}
use Rattle.dmf_vital.specs.Chains.{AreChains}
use Rattle.dmf_vital.specs.Exits.{is_barred, is_exit, exit_flow}
use Rattle.dmf_vital.specs.Ranks.{is_across}
use Rattle.dmf_vital.specs.Tree.{AreListed, IsBegun, IsReachedBy, at_node, back_of, place_of}
use Rattle.dmf_vital.specs.declared.exits.Exits.{Exits}
use Rattle.dmf_vital.specs.declared.rerouting.Rerouting.{Rerouting}
use Rattle.dmf_vital.specs.declared.tree.Reached.{Reached}

-- the amount, if the two nodes are the same
abbrev pub amount_at : ℕ → ℕ → ℕ → ℕ
amount_at amount u v = if u == v then amount else 0

-- The second flows send this amount more than the first from node `a` to node `b`, and as much over each barred arc.
pub record AreShifted (n : Network) (e : Exits) (a b amount : ℕ) (before after : List ℕ) : Type 0 where
  pub within : AreWithinCapacities n.arcs after
  pub balance : (v : ℕ) → outflow n.arcs after v + inflow n.arcs before v + amount_at amount b v
      ≡ outflow n.arcs before v + inflow n.arcs after v + amount_at amount a v
  pub kept : (i : ℕ) → has_arc n i ≡ true → is_barred n e i ≡ true → flow_on after i ≡ flow_on before i

-- Each node that was reached from this end was reached by a step that has room now, or the search began at it.
abbrev pub HasSteps : Network → List ℕ → Exits → List Reached → Bool → Type 0
HasSteps n flows e nodes back =
    (v : ℕ) → IsNode n.nodes v → 0 < place_of nodes v → back_of nodes v ≡ back
    → IsBegun n flows e v (at_node nodes v) ⊎ IsReachedBy n flows e nodes v (at_node nodes v)

-- The flow is the same on each arc but those between nodes of this end.
abbrev pub KeepsOthers : Network → List Reached → Bool → List ℕ → List ℕ → Type 0
KeepsOthers n nodes back before after =
    (i : ℕ) → has_arc n i ≡ true → (back_of nodes (arc_number n i).tail ≢ back) ⊎ (back_of nodes (arc_number n i).head ≢ back)
    → flow_on after i ≡ flow_on before i

-- So much more is sent along the steps to node `v`, and over the exit of this number after it if the node was reached from behind.
pub record IsClimbed (n : Network) (e : Exits) (nodes : List Reached) (v amount : ℕ) (before after : List ℕ) (exit : ℕ) : Type 0 where
  pub ahead : back_of nodes v ≡ false → AreShifted n e e.node v amount before after
  pub behind : back_of nodes v ≡ true → AreShifted n e v (arc_number n exit).head amount before after
  pub is_there : back_of nodes v ≡ true → has_arc n exit ≡ true
  pub is_exit : back_of nodes v ≡ true → is_exit n e exit ≡ true
  pub level : back_of nodes v ≡ true → is_across e.ranks.now (arc_number n exit) ≡ false
  pub carries : back_of nodes v ≡ true → amount ≤ flow_on after exit

-- A set has the node that the exits leave and none that an exit with flow enters, and no residual step but those of the exits leads out of
-- it.
pub record HoldsExits (n : Network) (flows : List ℕ) (e : Exits) (has : ℕ → Bool) : Type 0 where
  pub of_nodes : (u : ℕ) → has u ≡ true → IsNode n.nodes u
  pub node : has e.node ≡ true
  pub heads : (i : ℕ) → has_arc n i ≡ true → is_exit n e i ≡ true → 0 < flow_on flows i → has (arc_number n i).head ≡ false
  pub none_leaves : (step : Step) → Contains (residual_steps n.arcs flows) step
      → ((i : ℕ) → has_arc n i ≡ true → is_exit n e i ≡ true → (step.rank ≢ 2 * i) × (step.rank ≢ 2 * i + 1))
      → has step.from ≡ true → has step.to ≡ true

-- The flow is greatest, as the state's own is, and its chains are those of the network.
pub record IsReady (s : NetworkState) (r : Rerouting) : Type 0 where
  pub network : IsNetwork s.network
  pub own : IsGreatest s.network s.flows
  pub greatest : IsGreatest s.network r.flows.items
  pub along : AreChains false s.network.nodes s.network.arcs r.along.last.items r.along.before.items
  pub against : AreChains true s.network.nodes s.network.arcs r.against.last.items r.against.before.items
  pub tree : AreListed s.network.nodes r.tree.nodes.items r.tree.found.items

-- So much of the flow on the exits was moved to other ways. If none was, none can be.
pub record IsMoved (n : Network) (e : Exits) (moved : ℕ) (before after : List ℕ) : Type 0 where
  pub moves : exit_flow n e after + moved ≡ exit_flow n e before
  pub held : moved ≡ 0 → (has : ℕ → Bool) × HoldsExits n after e has

-- In some greatest flow the exits carry `left`, and none of it can go another way.
pub record IsLeft (n : Network) (e : Exits) (left : ℕ) : Type 0 where
  pub flows : List ℕ
  pub greatest : IsGreatest n flows
  pub is : exit_flow n e flows ≡ left
  pub held : 0 < left → (has : ℕ → Bool) × HoldsExits n flows e has
