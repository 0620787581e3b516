-- A node's loss is at most what flows through it in a greatest flow, and all of that if none can go another way.
use Rattle.std.proofs.Common.{ℕ, suc, ◌≡◌, ◌≢◌, ◌+◌, ◌-◌, ◌<◌, ◌≤◌, ◌==◌, ◌&&◌, ◌||◌, List, [], ◌∷◌, length, get_or, map, Bool, true, false, not, cond, refl, ap, sym, ◌∙◌}
use Rattle.std.proofs.Common.{arith, sum_by, ⊎_elim, inl, inr, subst, pos, ◌+ℤ◌, ◌≤ℤ◌}
use Rattle.std.specs.List.{zip}
use Rattle.std.proofs.lemmas.Bool.{both_ways, cases_Bool, cases_eq, cases_lt, eq-eqb, eqb-true, ne_eqb}
use Rattle.std.proofs.lemmas.Int.{ints}
use Rattle.std.proofs.lemmas.List.Sums.{sum_by-cons}
use Rattle.std.proofs.lemmas.Slice.Zip.{AllZip-long}
use Rattle.dmf_state.specs.declared.arc.Arc.{Arc}
use Rattle.dmf_state.specs.Arc.{no_arc, closed_arc}
use Rattle.dmf_state.specs.Cut.{IsCut, cut_capacity}
use Rattle.dmf_state.specs.Flow.{AreWithinCapacities, IsFlow, IsInnerNode, flow_value}
use Rattle.dmf_state.specs.Network.{Network, IsNetwork, has_arc}
use Rattle.dmf_solver.specs.Greatest.{IsGreatest}
use Rattle.dmf_solver.proofs.cuts.Crossing.{leaving, entering, across-none, value-across, none-across, none-across_both, value-across_back}
use Rattle.dmf_solver.proofs.cuts.GreatestFlow.{max_flow-min_cut}
use Rattle.dmf_solver.proofs.cuts.MaxFlowMinCut.{value-le_capacity}
use Rattle.dmf_solver.proofs.pairs.ByArc.{has-step}
use Rattle.dmf_solver.proofs.solving.ResidualSteps.{by_residual, residual-ahead, residual-behind}
use Rattle.dmf_vital.specs.Kept.{HoldsNode}
use Rattle.dmf_vital.specs.Laws.{NodeLossIsAtMostFlow, HeldNodeFlowIsLost}
use Rattle.dmf_vital.specs.Loss.{IsLossOfNode}
use Rattle.dmf_vital.specs.Through.{flow_through, part_off}
use Rattle.dmf_vital.specs.Without.{shut_arc, without_node}
use Rattle.dmf_vital.proofs.Chained.{has-arc}
use Rattle.dmf_vital.proofs.Shutting.{network-shut, some-node_loss}
use Rattle.dmf_vital.proofs.Values.{value-is_greatest, value-of_greatest}

-- ---- one arc

-- What leaves a set with the node over an arc is at most the capacity that is left, or it flows through the node.
part-le_shut : (a b tail head : Bool) (arc : Arc) (x : ℕ) → x ≤ arc.cap
    → cond ((a || tail) && not (b || head)) x 0 ≤ cond (a && not b) (cond (tail || head) (closed_arc arc) arc).cap 0 + cond (tail && not head) x 0
part-le_shut true true true true arc x within = omega arith
part-le_shut true true true false arc x within = omega arith
part-le_shut true true false true arc x within = omega arith
part-le_shut true true false false arc x within = omega arith
part-le_shut true false true true arc x within = omega arith
part-le_shut true false true false arc x within = omega arith
part-le_shut true false false true arc x within = omega arith
part-le_shut true false false false arc x within = omega (arith, within)
part-le_shut false true true true arc x within = omega arith
part-le_shut false true true false arc x within = omega arith
part-le_shut false true false true arc x within = omega arith
part-le_shut false true false false arc x within = omega arith
part-le_shut false false true true arc x within = omega arith
part-le_shut false false true false arc x within = omega arith
part-le_shut false false false true arc x within = omega arith
part-le_shut false false false false arc x within = omega arith

-- It is just that, if other arcs that lead out are full and arcs from the node to others in the set are empty.
part-is_shut : (a b tail head : Bool) (arc : Arc) (x : ℕ) → x ≤ arc.cap → (tail ≡ true → a ≡ true) → (head ≡ true → b ≡ true)
    → (tail ≡ false → x < arc.cap → a ≡ true → b ≡ true) → (tail ≡ true → head ≡ false → 0 < x → b ≡ false)
    → cond (a && not b) x 0 ≡ cond (a && not b) (cond (tail || head) (closed_arc arc) arc).cap 0 + cond (tail && not head) x 0
part-is_shut true true true true arc x within from to full heads = refl
part-is_shut true true true false arc x within from to full heads = ⊎_elim
    (λ (some : 0 < x). absurd (both_ways true (heads refl refl some) refl))
    (λ (none : x ≤ 0). omega (arith, none))
    (cases_lt 0 x)
part-is_shut true true false true arc x within from to full heads = refl
part-is_shut true true false false arc x within from to full heads = refl
part-is_shut true false tail true arc x within from to full heads = absurd (both_ways false refl (to refl))
part-is_shut true false true false arc x within from to full heads = omega arith
part-is_shut true false false false arc x within from to full heads = ⊎_elim
    (λ (less : x < arc.cap). absurd (both_ways false refl (full refl less refl)))
    (λ (all : arc.cap ≤ x). omega (arith, within, all))
    (cases_lt x arc.cap)
part-is_shut false b true head arc x within from to full heads = absurd (both_ways false refl (from refl))
part-is_shut false b false true arc x within from to full heads = refl
part-is_shut false b false false arc x within from to full heads = refl

not-same : (v u : ℕ) → (u == v) ≡ false → u ≢ v
not-same v u e same = both_ways (u == v) e (eq-eqb u v same)

-- ---- all arcs

module _ (v : ℕ) (has : ℕ → Bool) where
  abbrev with_node : ℕ → Bool
  with_node u = has u || u == v

  abbrev cap_part : Arc → ℕ
  cap_part a = cond (has a.tail && not (has a.head)) a.cap 0

  -- Shut or not, an arc leads out of the set or not.
  shut-ends : (b : Bool) (arc : Arc) → cap_part (cond b (closed_arc arc) arc) ≡ cond (has arc.tail && not (has arc.head)) (cond b (closed_arc arc) arc).cap 0
  shut-ends true arc = refl
  shut-ends false arc = refl

  leaving-le : (arcs : List Arc) (flows : List ℕ) → AreWithinCapacities arcs flows
      → leaving arcs flows with_node ≤ cut_capacity (map (shut_arc v) arcs) has + sum_by (part_off v) (zip arcs flows)
  leaving-le [] flows within = omega arith
  leaving-le (arc ∷ arcs) [] within = absurd within
  leaving-le (arc ∷ arcs) (x ∷ flows) within =
      let flow_part : Arc × ℕ → ℕ = λ p. cond (with_node p.0.tail && not (with_node p.0.head)) p.1 0 in
      let shut : Arc = shut_arc v arc in
      let ends : cap_part shut ≡ cond (has arc.tail && not (has arc.head)) shut.cap 0 = shut-ends (arc.tail == v || arc.head == v) arc in
      omega (
        arith,
        part-le_shut (has arc.tail) (has arc.head) (arc.tail == v) (arc.head == v) arc x within.0,
        ends,
        leaving-le arcs flows within.1,
        sum_by-cons flow_part (arc, x) (zip arcs flows),
        sum_by-cons cap_part shut (map (shut_arc v) arcs),
        sum_by-cons (part_off v) (arc, x) (zip arcs flows),
      )

  -- What is known of the arc at an index.
  abbrev IsHeldAt : List Arc → List ℕ → ℕ → Type 0
  IsHeldAt arcs flows k =
      ((get_or arcs k no_arc).tail ≢ v → get_or flows k 0 < (get_or arcs k no_arc).cap → has (get_or arcs k no_arc).tail ≡ true → has (get_or arcs k no_arc).head ≡ true)
      × ((get_or arcs k no_arc).tail ≡ v → (get_or arcs k no_arc).head ≢ v → 0 < get_or flows k 0 → has (get_or arcs k no_arc).head ≡ false)

  leaving-is_shut : has v ≡ true → (arcs : List Arc) (flows : List ℕ) → AreWithinCapacities arcs flows → ((k : ℕ) → k < length arcs → IsHeldAt arcs flows k)
      → leaving arcs flows has ≡ cut_capacity (map (shut_arc v) arcs) has + sum_by (part_off v) (zip arcs flows)
  leaving-is_shut inside [] flows within held = refl
  leaving-is_shut inside (arc ∷ arcs) [] within held = absurd within
  leaving-is_shut inside (arc ∷ arcs) (x ∷ flows) within held =
      let flow_part : Arc × ℕ → ℕ = λ p. cond (has p.0.tail && not (has p.0.head)) p.1 0 in
      let shut : Arc = shut_arc v arc in
      let ends : cap_part shut ≡ cond (has arc.tail && not (has arc.head)) shut.cap 0 = shut-ends (arc.tail == v || arc.head == v) arc in
      let here = held 0 (omega arith) in
      let part = part-is_shut (has arc.tail) (has arc.head) (arc.tail == v) (arc.head == v) arc x within.0
      (λ e. ap has (eqb-true arc.tail v e) ∙ inside)
      (λ e. ap has (eqb-true arc.head v e) ∙ inside)
      (λ e. here.0 (not-same v arc.tail e))
      (λ e f. here.1 (eqb-true arc.tail v e) (not-same v arc.head f)) in
      omega (
        arith,
        part,
        ends,
        leaving-is_shut inside arcs flows within.1 (λ k h. held (suc k) (omega (arith, h))),
        sum_by-cons flow_part (arc, x) (zip arcs flows),
        sum_by-cons cap_part shut (map (shut_arc v) arcs),
        sum_by-cons (part_off v) (arc, x) (zip arcs flows),
      )

-- ---- the loss is at most what flows through the node

-- A minimum cut of the network without the node, with the node, is crossed by no more.
pub node_loss-at_most : NodeLossIsAtMostFlow
node_loss-at_most n flows v loss network greatest is =
    let shut : Network = without_node n v in
    let after = is.1.greatest_after in
    let cut = max_flow-min_cut shut after.flows (network-shut v n network) after.greatest in
    let has : ℕ → Bool = λ u. cut.has u || u == v in
    let source : has n.source ≡ true = ap (λ b. b || n.source == v) cut.least.cut.source in
    let sink : has n.sink ≡ false = rw (cut.least.cut.sink, ne_eqb n.sink v (λ same. is.0.not_sink (sym same))) refl in
    let value = value-across n flows has network greatest.flow.conserved source sink in
    let most = leaving-le v cut.has n.arcs flows greatest.flow.within in
    omega (
      arith,
      ints,
      value,
      most,
      cut.capacity,
      value-is_greatest n flows is.1.before greatest is.1.greatest_before,
      after.value_is,
      is.1.difference,
    )

-- ---- the set that holds the node

module _ (n : Network) (flows : List ℕ) (v : ℕ) (has : ℕ → Bool) (network : IsNetwork n) (greatest : IsGreatest n flows) (inner : IsInnerNode n v)
    (holds : HoldsNode n flows v has) where
  abbrev arc_at : ℕ → Arc
  arc_at i = get_or n.arcs i no_arc

  same : length flows ≡ length n.arcs
  same = AllZip-long _ n.arcs flows greatest.flow.within

  there : (i : ℕ) → i < length n.arcs → has_arc n (i + 1) ≡ true
  there i h = has-arc n (i + 1) (omega arith) (omega (arith, h))

  held-at : (i : ℕ) → i < length n.arcs → IsHeldAt v has n.arcs flows i
  held-at i h = (
    λ apart more.
        holds.none_leaves _ (has-step by_residual 1 n.arcs flows _ i h (omega (arith, h, same)) (residual-ahead (1 + i) (arc_at i) (get_or flows i 0) more))
        (λ m is tail. (
          λ e. apart (ap (λ k. (arc_at k).tail) (let index : i ≡ m - 1 = omega (arith, e) in index) ∙ tail),
          λ e. omega (arith, e),
        )),
    λ tail head some.
        let index : i + 1 - 1 ≡ i = omega arith in
        let at = λ (end : Arc → ℕ). ap (λ k. end (arc_at k)) index in
        ap (λ k. has (arc_at k).head) (sym index)
        ∙ holds.heads (i + 1) (there i h) (at (λ a. a.tail) ∙ tail) (λ e. head (sym (at (λ a. a.head)) ∙ e)) (omega (arith, some, ap (λ k. get_or flows k 0) index)),
  )

  -- No arc leads into the set with flow.
  none-enters : entering n.arcs flows has ≡ 0
  none-enters =
      across-none (λ a. a.head) (λ a. a.tail) (λ p. p.1) has n.arcs flows (λ i h some inside. ⊎_elim
      (λ (here : (arc_at i).tail ≡ v). ap has here ∙ holds.node)
      (λ (other : (arc_at i).tail ≢ v).
      holds.none_leaves _ (has-step by_residual 1 n.arcs flows _ i h (omega (arith, h, same)) (residual-behind (1 + i) (arc_at i) (get_or flows i 0) some))
      (λ m is tail. (
        λ e. omega (arith, e),
        λ e. other (ap (λ k. (arc_at k).tail) (let index : i ≡ m - 1 = omega (arith, e) in index) ∙ tail),
      ))
      inside)
      (cases_eq (arc_at i).tail v))

  -- What leaves it is the capacity of the cut without the node, and what flows through the node.
  leaving-is : leaving n.arcs flows has ≡ cut_capacity (without_node n v).arcs has + flow_through n flows v
  leaving-is = leaving-is_shut v has holds.node n.arcs flows greatest.flow.within held-at

  -- If something flows through the node, the set is a cut.
  source-in : 0 < flow_through n flows v → (has n.source ≡ true) × (has n.sink ≡ false)
  source-in some =
      let conserved = greatest.flow.conserved in
      let value = value-of_greatest n flows network greatest in
      elim (cases_Bool (has n.source)) [
        | inl source ↦ elim (cases_Bool (has n.sink)) [
          | inl sink ↦ absurd (omega (arith, none-across_both n flows has network conserved source sink, leaving-is, none-enters, some))
          | inr sink ↦ (source, sink)
        ]
        | inr source ↦ elim (cases_Bool (has n.sink)) [
          | inl sink ↦ absurd (omega (arith, ints, value-across_back n flows has network conserved source sink, leaving-is, none-enters, some, value.1))
          | inr sink ↦ absurd (omega (arith, none-across n flows has network conserved source sink, leaving-is, none-enters, some))
        ]
      ]

  -- So no flow without the node has a larger value than what flows through it leaves.
  held-value : 0 < flow_through n flows v → (less : List ℕ) → IsFlow (without_node n v) less
      → (flow_value (without_node n v) less +ℤ pos (flow_through n flows v)) ≤ℤ flow_value n flows
  held-value some less flow =
      let parts = source-in some in
      let cut : IsCut (without_node n v) has = record { of_nodes = holds.of_nodes; source = parts.0; sink = parts.1 } in
      let most = value-le_capacity (without_node n v) less has (network-shut v n network) flow cut in
      let value = value-across n flows has network greatest.flow.conserved parts.0 parts.1 in
      omega (arith, ints, most, value, leaving-is, none-enters)

  -- The loss is at least that.
  held-loss : (loss : ℕ) → IsLossOfNode n v loss → flow_through n flows v ≤ loss
  held-loss loss is = ⊎_elim
      (λ (some : 0 < flow_through n flows v).
      let after = is.1.greatest_after in
      let most = held-value some after.flows after.greatest.flow in
      omega (arith, ints, most, value-is_greatest n flows is.1.before greatest is.1.greatest_before, after.value_is, is.1.difference))
      (λ (none : flow_through n flows v ≤ 0). omega (arith, none))
      (cases_lt 0 (flow_through n flows v))

-- What flows through the node is lost.
pub held-node_flow_is_lost : HeldNodeFlowIsLost
held-node_flow_is_lost n flows v has network greatest inner holds =
    let some = some-node_loss n v network inner in
    let least = held-loss n flows v has network greatest inner holds some.0 some.1 in
    let most = node_loss-at_most n flows v some.0 network greatest some.1 in
    let is : some.0 ≡ flow_through n flows v = omega (arith, least, most) in
    subst (IsLossOfNode n v) is some.1

-- Nothing is lost without a node through which nothing flows.
pub idle-node_loses_nothing : (n : Network) (flows : List ℕ) (v : ℕ) → IsNetwork n → IsGreatest n flows → IsInnerNode n v → flow_through n flows v ≤ 0
    → IsLossOfNode n v 0
idle-node_loses_nothing n flows v network greatest inner none =
    let some = some-node_loss n v network inner in
    let most = node_loss-at_most n flows v some.0 network greatest some.1 in
    let is : some.0 ≡ 0 = omega (arith, most, none) in
    subst (IsLossOfNode n v) is some.1
