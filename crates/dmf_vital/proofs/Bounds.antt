-- The loss of an arc is between 0 and what it carries in a greatest flow.
use Rattle.std.proofs.Common.{ℕ, ◌≡◌, ◌+◌, ◌-◌, ◌≤◌, List, true, sym, subst, arith, pos, ◌+ℤ◌, ◌≤ℤ◌, set}
use Rattle.std.proofs.lemmas.Int.{ints}
use Rattle.std.proofs.lemmas.List.{get_or-set_same}
use Rattle.std.proofs.lemmas.Slice.Zip.{AllZip-long}
use Rattle.dmf_state.specs.Flow.{flow_on, outflow, inflow, IsFlow, flow_value}
use Rattle.dmf_state.specs.Network.{Network, IsNetwork, arc_number, has_arc}
use Rattle.dmf_state.specs.NetworkState.{NetworkState}
use Rattle.dmf_state.proofs.ChangedArc.{has_arc-within}
use Rattle.dmf_state.proofs.Changing.{flow_at-set, within-set}
use Rattle.dmf_solver.specs.Greatest.{IsGreatest}
use Rattle.dmf_solver.proofs.cuts.GreatestFlow.{some-greatest_flow}
use Rattle.dmf_solver.proofs.draining.Draining.{drains-state, some-drained}
use Rattle.dmf_vital.specs.Loss.{IsLossOfArc}
use Rattle.dmf_vital.specs.Laws.{ArcHasLoss, LossIsAtMostFlow, IdleArcLosesNothing, LoopLosesNothing}
use Rattle.dmf_vital.specs.Without.{without_arc}
use Rattle.dmf_vital.proofs.Closing.{network-without, flow-without, value-without, long-without, flow-from_without}
use Rattle.dmf_vital.proofs.Values.{state-of_greatest, value-is_greatest, some-value}

module _ (n : Network) (j : ℕ) (network : IsNetwork n) (has : has_arc n j ≡ true) (flows less : List ℕ) (greatest : IsGreatest n flows)
    (greatest_less : IsGreatest (without_arc n j) less) where
  -- Without the arc no flow has a larger value,
  pub value-no_more : flow_value (without_arc n j) less ≤ℤ flow_value n flows
  value-no_more =
      let flow = greatest_less.flow in
      let value = value-without n j has less (long-without n j has less flow) in
      omega (arith, ints, value, greatest.none_larger less (flow-from_without n j has less flow))

  -- and draining the arc leaves a flow whose value is less by at most what the arc carries.
  pub value-at_least : flow_value n flows ≤ℤ (flow_value (without_arc n j) less +ℤ pos (flow_on flows j))
  value-at_least =
      let s : NetworkState = record { network = n; flows = flows } in
      let state = state-of_greatest n flows network greatest in
      let drained = some-drained s j 0 state has in
      let off = drains-state s j 0 flows drained.last state has drained.drains in
      let flow = off.0.flow in
      let value = value-without n j has drained.last (AllZip-long _ n.arcs drained.last flow.within) in
      let best = greatest_less.none_larger drained.last (flow-without n j has drained.last flow drained.drains.within) in
      omega (arith, ints, value, best, off.0.value)

-- Each arc has a loss, the difference of the two greatest values.
pub some-loss : ArcHasLoss
some-loss n j network has =
    let before = some-value n network in
    let after = some-value (without_arc n j) (network-without n j has network) in
    let less = value-no_more n j network has before.1.flows after.1.flows before.1.greatest after.1.greatest in (
      before.0 - after.0,
      (
        has,
        record {
          before = before.0;
          after = after.0;
          greatest_before = before.1;
          greatest_after = after.1;
          difference = omega (arith, ints, less, before.1.value_is, after.1.value_is);
        },
      ),
    )

-- It is at most what the arc carries in a greatest flow.
pub loss-at_most_flow : LossIsAtMostFlow
loss-at_most_flow n flows j loss network greatest is =
    let after = is.1.greatest_after in
    let most = value-at_least n j network is.0 flows after.flows greatest after.greatest in
    omega (arith, ints, most, value-is_greatest n flows is.1.before greatest is.1.greatest_before, after.value_is, is.1.difference)

-- A loss that is at most 0 is 0.
loss-none : (n : Network) (j : ℕ) (some : (loss : ℕ) × IsLossOfArc n j loss) → some.0 ≤ 0 → IsLossOfArc n j 0
loss-none n j some none = let is : some.0 ≡ 0 = omega (arith, none) in subst (IsLossOfArc n j) is some.1

-- Nothing is lost without an arc that carries nothing in a greatest flow,
pub idle-loses_nothing : IdleArcLosesNothing
idle-loses_nothing n flows j network greatest has idle =
    let some = some-loss n j network has in
    loss-none n j some (omega (arith, idle, loss-at_most_flow n flows j some.0 network greatest some.1))

-- A flow without what is on a self loop is a flow of the same value.
module _ (n : Network) (flows : List ℕ) (j : ℕ) (has : has_arc n j ≡ true) (loop : (arc_number n j).tail ≡ (arc_number n j).head) (flow : IsFlow n flows) where
  abbrev emptied : List ℕ
  emptied = set flows (j - 1) 0

  balance-emptied : (v : ℕ) → outflow n.arcs emptied v + inflow n.arcs flows v ≡ outflow n.arcs flows v + inflow n.arcs emptied v
  balance-emptied v =
      let long = AllZip-long _ n.arcs flows flow.within in
      let within = (has_arc-within n j has).1 in
      let out = flow_at-set (λ a. a.tail) n.arcs flows (j - 1) 0 v long within in
      let into = rw (sym loop) at (flow_at-set (λ a. a.head) n.arcs flows (j - 1) 0 v long within) in
      omega (arith, out, into)

  flow-emptied : IsFlow n emptied
  flow-emptied = record {
    within = within-set n.arcs flows (j - 1) 0 flow.within (omega arith);
    conserved = λ v inner. omega (arith, balance-emptied v, flow.conserved v inner);
  }

  value-emptied : flow_value n emptied ≡ flow_value n flows
  value-emptied = omega (arith, ints, balance-emptied n.source)

-- and without a self loop.
pub loop-loses_nothing : LoopLosesNothing
loop-loses_nothing n j network has loop =
    let some = some-greatest_flow n network in
    let flow = some.1.flow in
    let least : IsGreatest n (emptied n some.0 j has loop flow) = record {
      flow = flow-emptied n some.0 j has loop flow;
      none_larger = λ other is. omega (arith, ints, some.1.none_larger other is, value-emptied n some.0 j has loop flow);
    } in
    let long = AllZip-long _ n.arcs some.0 flow.within in
    let at = has_arc-within n j has in
    idle-loses_nothing n (emptied n some.0 j has loop flow) j network least has (get_or-set_same some.0 (j - 1) 0 0 (omega (arith, at.1, long)))
