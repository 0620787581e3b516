-- A state in which one arc is replaced.
use Rattle.std.proofs.Common.{ℕ, ◌≡◌, ◌+◌, ◌-◌, ◌^◌, ◌≤◌, ◌<◌, get_or, set, Bool, true, false, cond, not, refl, ap, ◌∙◌, sym, subst, arith}
use mir.Val.{bool_byte}
use Rattle.std.proofs.lemmas.List.{get_or-set_same, set-set, set-get_or, length-set}
use Rattle.std.proofs.lemmas.List.Sums.{sum_by-set, get_or-le-sum_by}
use Rattle.std.proofs.lemmas.Slice.Zip.{AllZip-long}
use Rattle.dmf_state.specs.declared.arc.Arc.{Arc}
use Rattle.dmf_state.specs.declared.flow_sums.NodeFlow.{NodeFlow}
use Rattle.dmf_state.specs.Arc.{no_arc, with_cap, closed_arc}
use Rattle.dmf_state.specs.Network.{Network, IsNetwork, arc_number, has_arc, with_arc}
use Rattle.dmf_state.specs.Network.{sum_with}
use Rattle.dmf_state.specs.Flow.{flow_on}
use Rattle.dmf_state.specs.NetworkState.{NetworkState, IsState}
use Rattle.dmf_state.specs.Totals.{KeepsTotals}
use Rattle.dmf_state.proofs.Changing.{within-at}
use Rattle.dmf_state.proofs.ChangedArc.{has_arc-within, flow_at-replaced, IsNetwork-with_arc, IsFlow-with_arc, flow_value-with_arc}

-- the state with this arc in place of arc number `j`
abbrev pub with_arc_at : NetworkState → ℕ → Arc → NetworkState
with_arc_at s j arc = record { network = with_arc s.network j arc; flows = s.flows }

-- It is a state, if the network is one and the new arc can carry the flow.
pub IsState-with_arc : (s : NetworkState) (j : ℕ) (arc : Arc) → IsState s → has_arc s.network j ≡ true → arc.tail ≡ (arc_number s.network j).tail
    → arc.head ≡ (arc_number s.network j).head → IsNetwork (with_arc s.network j arc) → flow_on s.flows j ≤ arc.cap → IsState (with_arc_at s j arc)
IsState-with_arc s j arc state has tail head network within = record {
  network = network;
  flow = IsFlow-with_arc s.network j arc s.flows has tail head within state.flow;
  value_from_zero = rw (flow_value-with_arc s.network j arc s.flows tail head (AllZip-long _ s.network.arcs s.flows state.flow.within)) state.value_from_zero;
}

-- 1 where the arc is open, and 0 where it is closed
abbrev one_if_open : Arc → ℕ
one_if_open arc = cond (not arc.closed) 1 0

bool_byte-cond : (b : Bool) → bool_byte b ≡ cond b 1 0
bool_byte-cond true = refl
bool_byte-cond false = refl

-- The capacity of an arc is part of the sum of all capacities.
pub cap-in_sum : (s : NetworkState) (j sum : ℕ) (source : NodeFlow) (count : ℕ) → KeepsTotals s sum source count → has_arc s.network j ≡ true
    → (arc_number s.network j).cap ≤ sum
cap-in_sum s j sum source count keeps has =
    let cap : Arc → ℕ = λ a. a.cap in
    omega (arith, keeps.sum_is, get_or-le-sum_by cap s.network.arcs (j - 1) no_arc (has_arc-within s.network j has).1)

-- the totals where arc number `j` is replaced by an arc with the same ends
pub KeepsTotals-with_arc : (s : NetworkState) (j : ℕ) (arc : Arc) (sum : ℕ) (source : NodeFlow) (count : ℕ) → KeepsTotals s sum source count
    → has_arc s.network j ≡ true → arc.tail ≡ (arc_number s.network j).tail → arc.head ≡ (arc_number s.network j).head → IsState (with_arc_at s j arc)
    → KeepsTotals (with_arc_at s j arc) (sum - (arc_number s.network j).cap + arc.cap) source
    (count - bool_byte (not (arc_number s.network j).closed) + bool_byte (not arc.closed))
KeepsTotals-with_arc s j arc sum source count keeps has tail head state =
    let k : ℕ = j - 1 in
    let within = (has_arc-within s.network j has).1 in
    let cap : Arc → ℕ = λ a. a.cap in
    let caps = sum_by-set cap s.network.arcs k arc no_arc within in
    let cap_le = cap-in_sum s j sum source count keeps has in
    let opens = sum_by-set one_if_open s.network.arcs k arc no_arc within in
    let open_le = get_or-le-sum_by one_if_open s.network.arcs k no_arc within in
    record {
      state = state;
      sum_is = omega (arith, keeps.sum_is, caps, cap_le);
      at_source = record {
        leaving = keeps.at_source.leaving ∙ sym (flow_at-replaced (λ a. a.tail) s.network.arcs s.flows k arc s.network.source tail);
        entering = keeps.at_source.entering ∙ sym (flow_at-replaced (λ a. a.head) s.network.arcs s.flows k arc s.network.source head);
      };
      count_is = omega (arith, keeps.count_is, opens, open_le, bool_byte-cond (not (arc_number s.network j).closed), bool_byte-cond (not arc.closed));
    }

-- If the network with the new arc makes a state, so does the network with the old one, whose capacity is no smaller.
pub IsState-with_arc_back : (s : NetworkState) (j : ℕ) (arc : Arc) → IsNetwork s.network → IsState (with_arc_at s j arc) → has_arc s.network j ≡ true
    → arc.tail ≡ (arc_number s.network j).tail → arc.head ≡ (arc_number s.network j).head → arc.cap ≤ (arc_number s.network j).cap → IsState s
IsState-with_arc_back s j arc network state has tail head falls =
    let k : ℕ = j - 1 in
    let n : Network = with_arc s.network j arc in
    let old : Arc = arc_number s.network j in
    let within = (has_arc-within s.network j has).1 in
    let here : get_or n.arcs k no_arc ≡ arc = get_or-set_same s.network.arcs k arc no_arc within in
    let has_it : has_arc n j ≡ true = rw length-set has in
    let arcs : set n.arcs k old ≡ s.network.arcs = set-set s.network.arcs k arc old ∙ set-get_or s.network.arcs k no_arc in
    let back : with_arc n j old ≡ s.network = λ i. record { nodes = s.network.nodes; source = s.network.source; sink = s.network.sink; arcs = arcs i } in
    let flow : flow_on s.flows j ≤ old.cap = omega (arith, falls, within-at n.arcs s.flows k state.flow.within, ap (λ a. a.cap) here) in
    subst (λ u. IsState (record { network = u; flows = s.flows })) back
    (IsState-with_arc (with_arc_at s j arc) j old state has_it (sym tail ∙ ap (λ a. a.tail) (sym here)) (sym head ∙ ap (λ a. a.head) (sym here))
    (subst IsNetwork (sym back) network) flow)

-- An open arc can get any capacity that its flow and the sum of the capacities allow: the result is a state.
pub IsState-with_cap : (s : NetworkState) (j cap : ℕ) → IsState s → has_arc s.network j ≡ true → (arc_number s.network j).closed ≡ false
    → flow_on s.flows j ≤ cap → sum_with s.network j cap < 2 ^ 64 → IsState (with_arc_at s j (with_cap cap (arc_number s.network j)))
IsState-with_cap s j cap state has is_open within small =
    let arc : Arc = with_cap cap (arc_number s.network j) in
    IsState-with_arc s j arc state has refl refl
    (IsNetwork-with_arc s.network j arc state.network has refl refl (λ closed. absurd (cc)) small)
    within

-- Closing an arc without flow gives a state.
pub IsState-closed : (s : NetworkState) (j : ℕ) → IsState s → has_arc s.network j ≡ true → flow_on s.flows j ≤ 0
    → IsState (with_arc_at s j (closed_arc (arc_number s.network j)))
IsState-closed s j state has within =
    let arc : Arc = closed_arc (arc_number s.network j) in
    IsState-with_arc s j arc state has refl refl
    (IsNetwork-with_arc s.network j arc state.network has refl refl (λ closed. refl) (omega (arith, state.network.capacities)))
    within
