-- A change that is not refused has an outcome.
use Rattle.std.proofs.Common.{ℕ, ◌≡◌, ◌+◌, ◌^◌, ◌&&◌, zero, suc, Bool, true, false, cond, List, [], ◌∷◌, length, Some, None, is_none, option_map, pos, ◌+ℤ◌}
use Rattle.std.proofs.Common.{◌≤ℤ◌, ◌<ℤ◌, ltb, inl, inr, refl, sym, subst, arith, ltb-true}
use Rattle.std.proofs.lemmas.Bool.{both_ways}
use Rattle.std.proofs.lemmas.Int.{ints}
use Rattle.std.proofs.lemmas.Slice.Zip.{AllZip-long}
use Rattle.dmf_state.specs.declared.arc.Arc.{Arc}
use Rattle.dmf_state.specs.declared.fault.ArcFault.TheVariants.{NoSuchNode, TooManyArcs, SumTooLarge}
use Rattle.dmf_solver.specs.declared.fault.PlanFault.TheVariants as plan
use Rattle.dmf_solver.specs.declared.fault.PlanFault.TheVariants.{Closed, NoSuchArc}
use Rattle.dmf_node.specs.Node.{is_node}
use Rattle.dmf_state.specs.Arc.{IsArc, open_arc, with_cap, closed_arc, capacity_sum, open_arcs_at}
use Rattle.dmf_state.specs.Network.{Network, IsNetwork, arc_number, has_arc, with_arc}
use Rattle.dmf_state.specs.Flow.{IsFlow, flow_value}
use Rattle.dmf_state.specs.NetworkState.{NetworkState, IsState, with_idle_arc, with_flows}
use Rattle.dmf_solver.specs.Residual.{residual_steps, augmented}
use Rattle.dmf_solver.specs.Solve.{Solves}
use Rattle.dmf_solver.specs.Drain.{Drains}
use Rattle.dmf_solver.specs.Change.{Cap, Add, Close, Shut, Solve, Closes, plan_fault}
use Rattle.dmf_state.specs.Network.{sum_with}
use Rattle.dmf_state.proofs.IdleArc.{IsState-idle, IsNode-is_node}
use Rattle.dmf_path.proofs.paths.SomeLeast.{SomeLeast, least-or-none}
use Rattle.dmf_solver.proofs.solving.ResidualSteps.{AreSteps-residual}
use Rattle.dmf_state.proofs.ChangedArc.{IsNetwork-with_arc, IsFlow-with_arc, flow_value-with_arc}
use Rattle.dmf_solver.proofs.draining.Draining.{drains-state, some-drained}
use Rattle.dmf_state.proofs.ClosedArcs.{HasArcs}
use Rattle.dmf_state.proofs.ClosedTogether.{IsNetwork-closed, HasArcs-closed, HasArcs-at}
use Rattle.dmf_solver.proofs.solving.Augmenting.{room-positive, augmented-flow, augmented-value, value-le-capacities}
use Rattle.dmf_solver.specs.Laws.{HasOutcome, Outcome}

-- A flow at which augmenting ends, of a value no smaller.
record Solved (n : Network) (flows : List ℕ) : Type 0 where
  last : List ℕ
  solves : Solves n flows last
  flow : IsFlow n last
  value : flow_value n flows ≤ℤ flow_value n last

-- Each path raises the value.
value-rises : (n : Network) (flows : List ℕ) → IsNetwork n → IsFlow n flows → (found : SomeLeast (residual_steps n.arcs flows) n.source n.sink)
    → flow_value n flows <ℤ flow_value n (augmented found.path flows)
value-rises n flows network flow found =
    omega (arith, ints, room-positive n flows found.path network.two_terminals found.least, augmented-value n flows found.path network flow found.least)

-- One more path in front.
one-more : (n : Network) (flows : List ℕ) → IsNetwork n → IsFlow n flows → (found : SomeLeast (residual_steps n.arcs flows) n.source n.sink)
    → Solved n (augmented found.path flows) → Solved n flows
one-more n flows network flow found rest = record {
  last = rest.last;
  solves = record {
    paths = found.path ∷ rest.solves.paths;
    augments = (found.least, rest.solves.augments);
    no_path = rest.solves.no_path;
  };
  flow = rest.flow;
  value = omega (arith, ints, value-rises n flows network flow found, rest.value);
}

-- Augmenting ends: each path raises the value, and the sum of the capacities bounds it.
solved : (n : Network) → IsNetwork n → (left : ℕ) (flows : List ℕ) → IsFlow n flows → pos (capacity_sum n.arcs) <ℤ (flow_value n flows +ℤ pos left)
    → Solved n flows
solved n network zero flows flow bound = absurd (omega (arith, ints, bound, value-le-capacities n flows flow))
solved n network (suc left) flows flow bound =
    elim (least-or-none (residual_steps n.arcs flows) (AreSteps-residual n.nodes n.arcs flows network.arcs).ascending n.source n.sink) [
      | inl none ↦ record {
        last = flows;
        solves = record { paths = []; augments = refl; no_path = none };
        flow = flow;
        value = omega (arith, ints);
      }
      | inr found ↦ one-more n flows network flow found (solved n network left (augmented found.path flows)
          (augmented-flow n flows found.path network flow found.least)
          (omega (arith, ints, bound, value-rises n flows network flow found)))
    ]

-- If there is no fault, each test passes.
each-passes : (tail head few small : Bool) → option_map plan_fault (cond (tail && head) (cond few (cond small None (Some SumTooLarge)) (Some TooManyArcs))
    (Some NoSuchNode)) ≡ None → (tail ≡ true) × (head ≡ true) × (few ≡ true) × (small ≡ true)
each-passes false head few small none = absurd (cc)
each-passes true false few small none = absurd (cc)
each-passes true true false small none = absurd (cc)
each-passes true true true false none = absurd (cc)
each-passes true true true true none = (refl, refl, refl, refl)

close-passes : (has closed : Bool) → cond has (cond closed (Some Closed) None) (Some NoSuchArc) ≡ None → (has ≡ true) × (closed ≡ false)
close-passes false closed none = absurd (cc)
close-passes true true none = absurd (cc)
close-passes true false none = (refl, refl)

cap-passes : (has closed small : Bool) → cond (is_none (cond has (cond closed (Some Closed) None) (Some NoSuchArc))) (cond small None (Some plan.SumTooLarge))
    (cond has (cond closed (Some Closed) None) (Some NoSuchArc)) ≡ None → (has ≡ true) × (closed ≡ false) × (small ≡ true)
cap-passes false closed small none = absurd (cc)
cap-passes true true small none = absurd (cc)
cap-passes true false false none = absurd (cc)
cap-passes true false true none = (refl, refl, refl)

-- Draining an arc to the capacity of another one with the same ends makes a state with that one in its place.
some-drained_to : (s : NetworkState) (j : ℕ) (arc : Arc) → IsState s → has_arc s.network j ≡ true → arc.tail ≡ (arc_number s.network j).tail
    → arc.head ≡ (arc_number s.network j).head → IsNetwork (with_arc s.network j arc)
    → (last : List ℕ) × Drains s.network j arc.cap s.flows last × IsState (record { network = with_arc s.network j arc; flows = last })
some-drained_to s j arc state has tail head network =
    let found = some-drained s j arc.cap state has in
    let left = drains-state s j arc.cap s.flows found.last state has found.drains in
    let long = AllZip-long _ s.network.arcs found.last left.0.flow.within in (
      found.last,
      found.drains,
      record {
        network = network;
        flow = IsFlow-with_arc s.network j arc found.last has tail head found.drains.within left.0.flow;
        value_from_zero = rw (flow_value-with_arc s.network j arc found.last tail head long) left.1.value_from_zero;
      },
    )

-- An arc can be closed,
some-closed : (s : NetworkState) (j : ℕ) → IsState s → has_arc s.network j ≡ true → Outcome s (Close j)
some-closed s j state has =
    let arc : Arc = closed_arc (arc_number s.network j) in
    let found = some-drained_to s j arc state has refl refl (IsNetwork-closed s.network j state.network has) in
    record { after = record { network = with_arc s.network j arc; flows = found.0 }; state = found.2; becomes = (refl, found.1) }

-- and so can several arcs in turn.
record SomeClosed (js : List ℕ) (s : NetworkState) : Type 0 where
  after : NetworkState
  state : IsState after
  closes : Closes js s after

some-closed_in_turn : (js : List ℕ) (s : NetworkState) → IsState s → HasArcs s.network js → SomeClosed js s
some-closed_in_turn [] s state has = record { after = s; state = state; closes = refl }
some-closed_in_turn (j ∷ js) s state has =
    let first = some-closed s j state has.0 in
    let there = subst (λ n. HasArcs n js) (sym first.becomes.0) (HasArcs-closed s.network j js has.1) in
    let rest = some-closed_in_turn js first.after first.state there in
    record { after = rest.after; state = rest.state; closes = (first.after, first.becomes, rest.closes) }

-- Each change has an outcome.
pub some-outcome : HasOutcome
some-outcome s (Cap j cap) state accepted =
    let n : Network = s.network in
    let arc : Arc = with_cap cap (arc_number n j) in
    let passes = cap-passes (has_arc n j) (arc_number n j).closed (ltb (sum_with n j cap) (2 ^ 64)) accepted in
    let network : IsNetwork (with_arc n j arc) =
    IsNetwork-with_arc n j arc state.network passes.0 refl refl (λ closed. absurd (both_ways (arc_number n j).closed passes.1 closed))
    (ltb-true _ _ passes.2) in
    let found = some-drained_to s j arc state passes.0 refl refl network in
    record { after = record { network = with_arc n j arc; flows = found.0 }; state = found.2; becomes = (refl, found.1) }
some-outcome s (Close j) state accepted =
    some-closed s j state (close-passes (has_arc s.network j) (arc_number s.network j).closed accepted).0
some-outcome s (Add tail head cap) state accepted =
    let passes = each-passes (is_node s.network.nodes tail) (is_node s.network.nodes head) (ltb (length s.network.arcs) (2 ^ 27))
    (ltb (capacity_sum s.network.arcs + cap) (2 ^ 64)) accepted in
    let arc : IsArc s.network.nodes (open_arc tail head cap) = record {
      tail = IsNode-is_node s.network.nodes tail passes.0;
      head = IsNode-is_node s.network.nodes head passes.1;
      closed = λ closed. absurd (cc);
    } in
    record {
      after = with_idle_arc s (open_arc tail head cap);
      state = IsState-idle s (open_arc tail head cap) state arc (ltb-true _ _ passes.2) (ltb-true _ _ passes.3);
      becomes = refl;
    }
some-outcome s (Shut v) state accepted =
    let found = some-closed_in_turn (open_arcs_at v 1 s.network.arcs) s state (HasArcs-at v s.network) in
    record { after = found.after; state = found.state; becomes = found.closes }
some-outcome s Solve state accepted =
    let found : Solved s.network s.flows = solved s.network state.network (suc (capacity_sum s.network.arcs)) s.flows state.flow
    (omega (arith, ints, state.value_from_zero)) in
    record {
      after = with_flows s found.last;
      state = record { network = state.network; flow = found.flow; value_from_zero = omega (arith, ints, state.value_from_zero, found.value) };
      becomes = (refl, found.solves);
    }
