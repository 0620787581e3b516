-- Replacing an arc by one with the same ends leaves the sums of a flow as they are.
use Rattle.std.proofs.Common.{ℕ, ◌≡◌, ◌+◌, ◌-◌, ◌^◌, ◌<◌, ◌≤◌, ◌==◌, List, [], ◌∷◌, length, get_or, set, zero, suc, true, cond, refl, ap, sym, subst, arith}
use Rattle.std.proofs.Common.{length-set}
use Rattle.std.specs.List.{zip}
use Rattle.std.proofs.lemmas.Bool.Decides.{nat_tests}
use Rattle.std.proofs.lemmas.List.Elements.{All-set}
use Rattle.std.proofs.lemmas.List.Sums.{sum_by-set, sum_by-cons}
use Rattle.dmf_state.specs.declared.arc.Arc.{Arc}
use Rattle.dmf_node.specs.Node.{IsNode}
use Rattle.dmf_state.specs.Arc.{IsArc, no_arc, capacity_sum}
use Rattle.dmf_state.specs.Network.{Network, IsNetwork, arc_number, has_arc, with_arc}
use Rattle.dmf_state.specs.Flow.{flow_on, flow_at, AreWithinCapacities, IsFlow, flow_value}

-- If there is an arc number `j`, its index is within the list.
pub has_arc-within : (n : Network) (j : ℕ) → has_arc n j ≡ true → (1 ≤ j) × (j - 1 < length n.arcs)
has_arc-within n j has =
    let first : 1 ≤ j = grind (arith, nat_tests) in
    let last : j ≤ length n.arcs = grind (arith, nat_tests) in
    (first, omega (arith, first, last))

-- Replacing an arc by one that has the same end leaves the sum at a node as it is.
pub flow_at-replaced : (end : Arc → ℕ) (arcs : List Arc) (flows : List ℕ) (k : ℕ) (arc : Arc) (v : ℕ) → end arc ≡ end (get_or arcs k no_arc)
    → flow_at end (set arcs k arc) flows v ≡ flow_at end arcs flows v
flow_at-replaced end [] flows k arc v same = refl
flow_at-replaced end (a ∷ arcs) [] zero arc v same = refl
flow_at-replaced end (a ∷ arcs) [] (suc k) arc v same = refl
flow_at-replaced end (a ∷ arcs) (x ∷ flows) zero arc v same =
    let f : Arc × ℕ → ℕ = λ p. cond (end p.0 == v) p.1 0 in
    let here : f (arc, x) ≡ f (a, x) = ap (λ u. cond (u == v) x 0) same in
    omega (arith, here, sum_by-cons f (arc, x) (zip arcs flows), sum_by-cons f (a, x) (zip arcs flows))
flow_at-replaced end (a ∷ arcs) (x ∷ flows) (suc k) arc v same =
    let f : Arc × ℕ → ℕ = λ p. cond (end p.0 == v) p.1 0 in
    let rest = flow_at-replaced end arcs flows k arc v same in
    omega (arith, rest, sum_by-cons f (a, x) (zip (set arcs k arc) flows), sum_by-cons f (a, x) (zip arcs flows))

-- The flows stay within the capacities if an arc is replaced by one that can carry its flow.
pub within-replaced : (arcs : List Arc) (flows : List ℕ) (k : ℕ) (arc : Arc) → AreWithinCapacities arcs flows → get_or flows k 0 ≤ arc.cap
    → AreWithinCapacities (set arcs k arc) flows
within-replaced [] flows k arc within le = within
within-replaced (a ∷ arcs) [] k arc within le = absurd within
within-replaced (a ∷ arcs) (x ∷ flows) zero arc within le = (le, within.1)
within-replaced (a ∷ arcs) (x ∷ flows) (suc k) arc within le = (within.0, within-replaced arcs flows k arc within.1 le)

-- Replacing arc number `j` gives a network again, if the new arc has the same ends and the sum of the capacities is not too large.
pub IsNetwork-with_arc : (n : Network) (j : ℕ) (arc : Arc) → IsNetwork n → has_arc n j ≡ true → arc.tail ≡ (arc_number n j).tail
    → arc.head ≡ (arc_number n j).head → (arc.closed ≡ true → arc.cap ≡ 0) → capacity_sum n.arcs - (arc_number n j).cap + arc.cap < 2 ^ 64
    → IsNetwork (with_arc n j arc)
IsNetwork-with_arc n j arc network has tail head closed small =
    let k : ℕ = j - 1 in
    let within = (has_arc-within n j has).1 in
    let old : IsArc n.nodes (get_or n.arcs k no_arc) = network.arcs k no_arc within in
    let new : IsArc n.nodes arc = record {
      tail = subst (IsNode n.nodes) (sym tail) old.tail;
      head = subst (IsNode n.nodes) (sym head) old.head;
      closed = closed;
    } in
    let cap : Arc → ℕ = λ a. a.cap in
    let sums = sum_by-set cap n.arcs k arc no_arc within in
    record {
      at_least_two_nodes = network.at_least_two_nodes;
      at_most_nodes = network.at_most_nodes;
      source = network.source;
      sink = network.sink;
      two_terminals = network.two_terminals;
      arcs = All-set (IsArc n.nodes) n.arcs k arc new network.arcs;
      at_most_arcs = rw length-set network.at_most_arcs;
      capacities = omega (arith, sums, small);
    }

-- A flow stays a flow if arc number `j` is replaced by one that has the same ends and can carry its flow.
pub IsFlow-with_arc : (n : Network) (j : ℕ) (arc : Arc) (flows : List ℕ) → has_arc n j ≡ true → arc.tail ≡ (arc_number n j).tail
    → arc.head ≡ (arc_number n j).head → flow_on flows j ≤ arc.cap → IsFlow n flows → IsFlow (with_arc n j arc) flows
IsFlow-with_arc n j arc flows has tail head le flow = record {
  within = within-replaced n.arcs flows (j - 1) arc flow.within le;
  conserved = λ v inner.
      let out = flow_at-replaced (λ a. a.tail) n.arcs flows (j - 1) arc v tail in
      let into = flow_at-replaced (λ a. a.head) n.arcs flows (j - 1) arc v head in
      let same = flow.conserved v (record { node = inner.node; not_source = inner.not_source; not_sink = inner.not_sink }) in
      cc;
}

-- Its value is the same.
pub flow_value-with_arc : (n : Network) (j : ℕ) (arc : Arc) (flows : List ℕ) → arc.tail ≡ (arc_number n j).tail → arc.head ≡ (arc_number n j).head
    → length flows ≡ length n.arcs → flow_value (with_arc n j arc) flows ≡ flow_value n flows
flow_value-with_arc n j arc flows tail head long =
    let out = flow_at-replaced (λ a. a.tail) n.arcs flows (j - 1) arc n.source tail in
    let into = flow_at-replaced (λ a. a.head) n.arcs flows (j - 1) arc n.source head in
    cc
