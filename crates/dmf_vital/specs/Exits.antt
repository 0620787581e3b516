-- The arcs whose flow is to go another way.
-- Private: only contracts inside the crate and proofs use this.
use Rattle.std.specs.Prelude.{ℕ, ◌≡◌, ◌≢◌, ◌==◌, ◌&&◌, ◌||◌, not, Bool, true, if◌then◌else◌, List}
use Rattle.dmf_node.specs.Node.{IsNode}
use Rattle.dmf_state.specs.declared.arc.Arc.{Arc}
use Rattle.dmf_state.specs.Flow.{flow_on}
use Rattle.dmf_state.specs.Network.{Network, arc_number, has_arc}
use Rattle.dmf_vital.specs.declared.exits.Exits.{Exits}
use Rattle.dmf_vital.specs.Ranks.{is_across}
use Rattle.dmf_vital.specs.Through.{flow_through}

-- whether the arc, which has number `j`, is one of the exits
abbrev pub is_exit_arc : Exits → ℕ → Arc → Bool
is_exit_arc e j arc = if e.arc == 0 then arc.tail == e.node && not (arc.head == e.node) else j == e.arc

-- whether arc number `j` is
abbrev pub is_exit : Network → Exits → ℕ → Bool
is_exit n e j = is_exit_arc e j (arc_number n j)

-- whether a search leaves the arc out: it is one of them, or leads between nodes of different ranks
abbrev pub is_barred_arc : Exits → ℕ → Arc → Bool
is_barred_arc e j arc = is_exit_arc e j arc || is_across e.ranks.now arc

-- whether a search leaves arc number `j` out
abbrev pub is_barred : Network → Exits → ℕ → Bool
is_barred n e j = is_barred_arc e j (arc_number n j)

-- what flows on all of them
abbrev pub exit_flow : Network → Exits → List ℕ → ℕ
exit_flow n e flows = if e.arc == 0 then flow_through n flows e.node else flow_on flows e.arc

-- They leave a node of the network. If there is only one, it is there, and no self loop.
pub record AreExits (n : Network) (e : Exits) : Type 0 where
  pub node : IsNode n.nodes e.node
  pub is_there : e.arc ≢ 0 → has_arc n e.arc ≡ true
  pub tail : e.arc ≢ 0 → (arc_number n e.arc).tail ≡ e.node
  pub head : e.arc ≢ 0 → (arc_number n e.arc).head ≢ e.node
