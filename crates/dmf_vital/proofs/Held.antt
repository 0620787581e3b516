-- An arc whose flow cannot go another way: the network without it has a cut whose capacity is less by that flow.
use Rattle.std.proofs.Common.{ℕ, zero, suc, ◌≡◌, ◌≢◌, ◌+◌, ◌-◌, ◌<◌, ◌≤◌, ◌&&◌, List, [], ◌∷◌, length, get_or, set, Bool, true, false, not, cond, refl, ap, ◌∙◌}
use Rattle.std.proofs.Common.{arith, ⊎_elim, inl, inr, subst, pos, ◌+ℤ◌, ◌≤ℤ◌}
use Rattle.std.specs.List.{zip}
use Rattle.std.proofs.lemmas.Bool.{cases_Bool, cases_eq, cases_lt, both_ways}
use Rattle.std.proofs.lemmas.Int.{ints}
use Rattle.std.proofs.lemmas.List.Sums.{sum_by-cons}
use Rattle.std.proofs.lemmas.Slice.Zip.{AllZip-long}
use Rattle.dmf_state.specs.declared.arc.Arc.{Arc}
use Rattle.dmf_state.specs.Arc.{no_arc, closed_arc}
use Rattle.dmf_state.specs.Cut.{IsCut, cut_capacity}
use Rattle.dmf_state.specs.Flow.{flow_on, AreWithinCapacities, IsFlow, flow_value}
use Rattle.dmf_state.specs.Network.{Network, IsNetwork, has_arc}
use Rattle.dmf_state.proofs.ChangedArc.{has_arc-within}
use Rattle.dmf_solver.specs.Greatest.{IsGreatest}
use Rattle.dmf_solver.proofs.cuts.Crossing.{leaving, entering, across-none, value-across, none-across, none-across_both, value-across_back}
use Rattle.dmf_solver.proofs.cuts.MaxFlowMinCut.{value-le_capacity}
use Rattle.dmf_solver.proofs.pairs.ByArc.{has-step}
use Rattle.dmf_solver.proofs.solving.ResidualSteps.{by_residual, residual-ahead, residual-behind}
use Rattle.dmf_vital.specs.Kept.{HoldsTail}
use Rattle.dmf_vital.specs.Laws.{HeldFlowIsLost}
use Rattle.dmf_vital.specs.Loss.{IsLossOfArc}
use Rattle.dmf_vital.specs.Without.{without_arc}
use Rattle.dmf_vital.proofs.Bounds.{some-loss, loss-at_most_flow}
use Rattle.dmf_vital.proofs.Closing.{network-without}
use Rattle.dmf_vital.proofs.Values.{value-is_greatest, value-of_greatest}

-- ---- the flow that leaves a set over full arcs

-- The arc at an index is full if it leads out of the set.
abbrev IsFullAt : (ℕ → Bool) → List Arc → List ℕ → ℕ → Type 0
IsFullAt has arcs flows k = get_or flows k 0 < (get_or arcs k no_arc).cap → has (get_or arcs k no_arc).tail ≡ true → has (get_or arcs k no_arc).head ≡ true

full-part : (a b : Bool) (x cap : ℕ) → x ≤ cap → (x < cap → a ≡ true → b ≡ true) → cond (a && not b) x 0 ≡ cond (a && not b) cap 0
full-part true true x cap within full = refl
full-part true false x cap within full = ⊎_elim
    (λ (less : x < cap). absurd (both_ways false refl (full less refl)))
    (λ (all : cap ≤ x). omega (arith, within, all))
    (cases_lt x cap)
full-part false b x cap within full = refl

module _ (has : ℕ → Bool) where
  abbrev crosses : Arc → Bool
  crosses a = has a.tail && not (has a.head)

  -- If all are full, it is the capacity of the arcs that leave it,
  leaving-full : (arcs : List Arc) (flows : List ℕ) → AreWithinCapacities arcs flows → ((k : ℕ) → k < length arcs → IsFullAt has arcs flows k)
      → leaving arcs flows has ≡ cut_capacity arcs has
  leaving-full [] flows within full = refl
  leaving-full (arc ∷ arcs) [] within full = absurd within
  leaving-full (arc ∷ arcs) (x ∷ flows) within full =
      let flow_part : Arc × ℕ → ℕ = λ p. cond (crosses p.0) p.1 0 in
      let cap_part : Arc → ℕ = λ a. cond (crosses a) a.cap 0 in
      omega (
        arith,
        full-part (has arc.tail) (has arc.head) x arc.cap within.0 (full 0 (omega arith)),
        leaving-full arcs flows within.1 (λ k h. full (suc k) (omega (arith, h))),
        sum_by-cons flow_part (arc, x) (zip arcs flows),
        sum_by-cons cap_part arc arcs,
      )

  -- and if all but one are, that arc's flow more than the capacity without the arc.
  leaving-full_but : (arcs : List Arc) (flows : List ℕ) (k : ℕ) → AreWithinCapacities arcs flows → k < length arcs
      → has (get_or arcs k no_arc).tail ≡ true → has (get_or arcs k no_arc).head ≡ false
      → ((i : ℕ) → i < length arcs → i ≢ k → IsFullAt has arcs flows i)
      → leaving arcs flows has ≡ cut_capacity (set arcs k (closed_arc (get_or arcs k no_arc))) has + get_or flows k 0
  leaving-full_but [] flows k within h tail head full = absurd (omega (arith, h))
  leaving-full_but (arc ∷ arcs) [] k within h tail head full = absurd within
  leaving-full_but (arc ∷ arcs) (x ∷ flows) zero within h tail head full =
      let flow_part : Arc × ℕ → ℕ = λ p. cond (crosses p.0) p.1 0 in
      let cap_part : Arc → ℕ = λ a. cond (crosses a) a.cap 0 in
      let here : crosses arc ≡ true = rw (tail, head) refl in
      let own : flow_part (arc, x) ≡ x = rw here refl in
      let none : cap_part (closed_arc arc) ≡ 0 = rw here refl in
      omega (
        arith,
        own,
        none,
        leaving-full arcs flows within.1 (λ i l. full (suc i) (omega (arith, l)) (omega arith)),
        sum_by-cons flow_part (arc, x) (zip arcs flows),
        sum_by-cons cap_part (closed_arc arc) arcs,
      )
  leaving-full_but (arc ∷ arcs) (x ∷ flows) (suc k) within h tail head full =
      let flow_part : Arc × ℕ → ℕ = λ p. cond (crosses p.0) p.1 0 in
      let cap_part : Arc → ℕ = λ a. cond (crosses a) a.cap 0 in
      omega (
        arith,
        full-part (has arc.tail) (has arc.head) x arc.cap within.0 (full 0 (omega arith) (omega arith)),
        leaving-full_but arcs flows k within.1 (omega (arith, h)) tail head (λ i l other. full (suc i) (omega (arith, l)) (omega (arith, other))),
        sum_by-cons flow_part (arc, x) (zip arcs flows),
        sum_by-cons cap_part arc (set arcs k (closed_arc (get_or arcs k no_arc))),
      )

-- ---- the set that holds the tail

module _ (n : Network) (flows : List ℕ) (j : ℕ) (has : ℕ → Bool) (network : IsNetwork n) (greatest : IsGreatest n flows) (there : has_arc n j ≡ true)
    (holds : HoldsTail n flows j has) where
  abbrev k : ℕ
  k = j - 1

  abbrev arc_at : ℕ → Arc
  arc_at i = get_or n.arcs i no_arc

  same : length flows ≡ length n.arcs
  same = AllZip-long _ n.arcs flows greatest.flow.within

  -- Any other arc that leads out of the set is full,
  others-full : (i : ℕ) → i < length n.arcs → i ≢ k → IsFullAt has n.arcs flows i
  others-full i h other more =
      let at = has_arc-within n j there in
      holds.none_leaves _ (has-step by_residual 1 n.arcs flows _ i h (omega (arith, h, same)) (residual-ahead (1 + i) (arc_at i) (get_or flows i 0) more))
      (λ e. other (omega (arith, e, at.0))) (λ e. omega (arith, e))

  -- and each arc that leads into it is empty.
  none-enters : entering n.arcs flows has ≡ 0
  none-enters =
      let at = has_arc-within n j there in
      across-none (λ a. a.head) (λ a. a.tail) (λ p. p.1) has n.arcs flows (λ i h some. ⊎_elim
      (λ (here : i ≡ k) (_ : has (arc_at i).head ≡ true). ap (λ m. has (arc_at m).tail) here ∙ holds.tail)
      (λ (other : i ≢ k) (inside : has (arc_at i).head ≡ true).
      holds.none_leaves _ (has-step by_residual 1 n.arcs flows _ i h (omega (arith, h, same)) (residual-behind (1 + i) (arc_at i) (get_or flows i 0) some))
      (λ e. omega (arith, e)) (λ e. other (omega (arith, e, at.0))) inside)
      (cases_eq i k))

  -- What leaves it is the capacity of the cut without the arc, and what the arc carries.
  leaving-is : leaving n.arcs flows has ≡ cut_capacity (without_arc n j).arcs has + flow_on flows j
  leaving-is = leaving-full_but has n.arcs flows k greatest.flow.within (has_arc-within n j there).1 holds.tail holds.head others-full

  -- If the arc carries something, the set is a cut: so much leaves it, and nothing enters.
  source-in : 0 < flow_on flows j → (has n.source ≡ true) × (has n.sink ≡ false)
  source-in some =
      let conserved = greatest.flow.conserved in
      let value = value-of_greatest n flows network greatest in
      elim (cases_Bool (has n.source)) [
        | inl source ↦ elim (cases_Bool (has n.sink)) [
          | inl sink ↦ absurd (omega (arith, none-across_both n flows has network conserved source sink, leaving-is, none-enters, some))
          | inr sink ↦ (source, sink)
        ]
        | inr source ↦ elim (cases_Bool (has n.sink)) [
          | inl sink ↦ absurd (omega (arith, ints, value-across_back n flows has network conserved source sink, leaving-is, none-enters, some, value.1))
          | inr sink ↦ absurd (omega (arith, none-across n flows has network conserved source sink, leaving-is, none-enters, some))
        ]
      ]

  -- So no flow without the arc has a larger value than its flow leaves.
  held-value : 0 < flow_on flows j → (less : List ℕ) → IsFlow (without_arc n j) less
      → (flow_value (without_arc n j) less +ℤ pos (flow_on flows j)) ≤ℤ flow_value n flows
  held-value some less flow =
      let parts = source-in some in
      let cut : IsCut (without_arc n j) has = record { of_nodes = holds.of_nodes; source = parts.0; sink = parts.1 } in
      let most = value-le_capacity (without_arc n j) less has (network-without n j there network) flow cut in
      let value = value-across n flows has network greatest.flow.conserved parts.0 parts.1 in
      omega (arith, ints, most, value, leaving-is, none-enters)

  -- The loss is at least what the arc carries.
  held-loss : (loss : ℕ) → IsLossOfArc n j loss → flow_on flows j ≤ loss
  held-loss loss is = ⊎_elim
      (λ (some : 0 < flow_on flows j).
      let after = is.1.greatest_after in
      let most = held-value some after.flows after.greatest.flow in
      omega (arith, ints, most, value-is_greatest n flows is.1.before greatest is.1.greatest_before, after.value_is, is.1.difference))
      (λ (none : flow_on flows j ≤ 0). omega (arith, none))
      (cases_lt 0 (flow_on flows j))

-- What the arc carries is lost.
pub held-flow_is_lost : HeldFlowIsLost
held-flow_is_lost n flows j has network greatest there holds =
    let some = some-loss n j network there in
    let least = held-loss n flows j has network greatest there holds some.0 some.1 in
    let most = loss-at_most_flow n flows j some.0 network greatest some.1 in
    let is : some.0 ≡ flow_on flows j = omega (arith, least, most) in
    subst (IsLossOfArc n j) is some.1
