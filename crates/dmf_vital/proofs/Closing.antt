-- Flows of a network and of the network in which one arc is closed.
use Rattle.std.proofs.Common.{ℕ, ◌≡◌, ◌-◌, ◌≤◌, List, length, true, refl, ap, sym, ◌∙◌, subst, arith}
use Rattle.std.proofs.lemmas.List.{get_or-set_same, set-set, set-get_or, length-set}
use Rattle.std.proofs.lemmas.Slice.Zip.{AllZip-long}
use Rattle.dmf_state.specs.declared.arc.Arc.{Arc}
use Rattle.dmf_state.specs.Arc.{no_arc, closed_arc}
use Rattle.dmf_state.specs.Flow.{flow_on, IsFlow, flow_value}
use Rattle.dmf_state.specs.Network.{Network, IsNetwork, arc_number, has_arc, with_arc}
use Rattle.dmf_state.proofs.ChangedArc.{has_arc-within, IsFlow-with_arc, flow_value-with_arc}
use Rattle.dmf_state.proofs.Changing.{within-at}
use Rattle.dmf_state.proofs.ClosedTogether.{IsNetwork-closed}
use Rattle.dmf_vital.specs.Laws.{ClosingLeavesOut}
use Rattle.dmf_vital.specs.Without.{without_arc}

-- Closing an arc makes the network without it.
pub closing-leaves_out : ClosingLeavesOut
closing-leaves_out s t j becomes = becomes.0

module _ (n : Network) (j : ℕ) (has : has_arc n j ≡ true) where
  -- Without an arc it is still a network.
  pub network-without : IsNetwork n → IsNetwork (without_arc n j)
  network-without network = IsNetwork-closed n j network has

  -- A flow of the network that leaves the arc empty is one of the network without it,
  pub flow-without : (flows : List ℕ) → IsFlow n flows → flow_on flows j ≤ 0 → IsFlow (without_arc n j) flows
  flow-without flows flow none = IsFlow-with_arc n j (closed_arc (arc_number n j)) flows has refl refl none flow

  -- and of the same value.
  pub value-without : (flows : List ℕ) → length flows ≡ length n.arcs → flow_value (without_arc n j) flows ≡ flow_value n flows
  value-without flows long = flow_value-with_arc n j (closed_arc (arc_number n j)) flows refl refl long

  -- A flow of the network without the arc has as many numbers,
  pub long-without : (flows : List ℕ) → IsFlow (without_arc n j) flows → length flows ≡ length n.arcs
  long-without flows flow = AllZip-long _ (without_arc n j).arcs flows flow.within ∙ length-set n.arcs (j - 1) (closed_arc (arc_number n j))

  closed-there : arc_number (without_arc n j) j ≡ closed_arc (arc_number n j)
  closed-there = get_or-set_same n.arcs (j - 1) (closed_arc (arc_number n j)) no_arc (has_arc-within n j has).1

  -- leaves the arc empty,
  pub none-without : (flows : List ℕ) → IsFlow (without_arc n j) flows → flow_on flows j ≤ 0
  none-without flows flow = omega (arith, within-at (without_arc n j).arcs flows (j - 1) flow.within, ap (λ (a : Arc). a.cap) closed-there)

  opened : with_arc (without_arc n j) j (arc_number n j) ≡ n
  opened =
      let arcs : (with_arc (without_arc n j) j (arc_number n j)).arcs ≡ n.arcs =
      rw (set-set n.arcs (j - 1) (closed_arc (arc_number n j)) (arc_number n j)) (set-get_or n.arcs (j - 1) no_arc) in
      λ i. record { nodes = n.nodes; source = n.source; sink = n.sink; arcs = arcs i }

  -- and is one of the network.
  pub flow-from_without : (flows : List ℕ) → IsFlow (without_arc n j) flows → IsFlow n flows
  flow-from_without flows flow =
      let has_too : has_arc (without_arc n j) j ≡ true = rw length-set has in
      let none = none-without flows flow in
      subst (λ m. IsFlow m flows) opened
      (IsFlow-with_arc (without_arc n j) j (arc_number n j) flows has_too (ap (λ (a : Arc). a.tail) (sym closed-there))
      (ap (λ (a : Arc). a.head) (sym closed-there)) (omega (arith, none)) flow)
