-- Every network has a maximum flow, and a minimum cut whose capacity is its value.
use Rattle.std.proofs.Common.{Bool, ℕ, ◌≡◌, ◌==◌, List, [], ◌∷◌, refl, subst, arith}
use Rattle.std.specs.List.{zip}
use Rattle.std.proofs.lemmas.Int.{ints}
use Rattle.std.proofs.lemmas.List.Sums.{sum_by-cons}
use Rattle.dmf_state.specs.declared.arc.Arc.{Arc}
use Rattle.dmf_state.specs.Network.{Network, IsNetwork}
use Rattle.dmf_state.specs.Flow.{flow_at, AreWithinCapacities, IsFlow, flow_value}
use Rattle.dmf_state.specs.NetworkState.{NetworkState, IsState}
use Rattle.dmf_solver.specs.Greatest.{IsGreatest}
use Rattle.dmf_state.specs.Cut.{HasCutOf, HasMinimumCutOf}
use Rattle.dmf_path.specs.Path.{HasNoPath}
use Rattle.dmf_solver.specs.Residual.{residual_steps}
use Rattle.dmf_solver.specs.Change.{Solve}
use Rattle.dmf_state.proofs.Summing.{at_node}
use Rattle.dmf_solver.proofs.cuts.Crossing.{no_part}
use Rattle.dmf_solver.proofs.cuts.Reached.{is_reached, AreReachedFrom-is_reached}
use Rattle.dmf_solver.proofs.cuts.MaxFlowMinCut.{AreReached, reached-capacity, reached-greatest, reached-minimum_cut}
use Rattle.dmf_solver.proofs.cuts.LargerFlow.{no_path-from_greatest}
use Rattle.dmf_solver.proofs.changes.SomeOutcome.{some-outcome}
use Rattle.dmf_solver.specs.Laws.{HasGreatestFlow, MaxFlowMinCut}

-- ---- a flow whose residual network has no path from the source to the sink

module _ (n : Network) (flows : List ℕ) (network : IsNetwork n) (flow : IsFlow n flows) (none : HasNoPath (residual_steps n.arcs flows) n.source n.sink) where
  abbrev has : ℕ → Bool
  has = is_reached (residual_steps n.arcs flows) n.nodes n.source

  are : AreReached n flows has
  are = AreReachedFrom-is_reached (residual_steps n.arcs flows) n.nodes n.source

  -- It is a maximum flow.
  pub greatest-from_no_path : IsGreatest n flows
  greatest-from_no_path = reached-greatest n flows has network flow none are

  -- Its value is the capacity of a minimum cut,
  minimum_cut-from_no_path : HasMinimumCutOf n (flow_value n flows)
  minimum_cut-from_no_path = record {
    has = has;
    least = reached-minimum_cut n flows has network flow none are;
    capacity = reached-capacity n flows has network flow none are;
  }

  -- and so of a cut.
  pub cut-from_no_path : HasCutOf n (flow_value n flows)
  cut-from_no_path =
      let least = minimum_cut-from_no_path in
      record { has = least.has; cut = least.least.cut; capacity = least.capacity }

-- The theorem that the value of a maximum flow is the capacity of a minimum cut.
pub max_flow-min_cut : MaxFlowMinCut
max_flow-min_cut n flows network greatest = minimum_cut-from_no_path n flows network greatest.flow (no_path-from_greatest n flows network greatest)

-- ---- there is a maximum flow

-- no flow on any arc
abbrev pub no_flow : List Arc → List ℕ
no_flow [] = []
no_flow (arc ∷ arcs) = 0 ∷ no_flow arcs

within-no_flow : (arcs : List Arc) → AreWithinCapacities arcs (no_flow arcs)
within-no_flow [] = tt
within-no_flow (arc ∷ arcs) = (omega arith, within-no_flow arcs)

-- The outflow and the inflow of a node are 0.
flow_at-no_flow : (end : Arc → ℕ) (arcs : List Arc) (v : ℕ) → flow_at end arcs (no_flow arcs) v ≡ 0
flow_at-no_flow end [] v = refl
flow_at-no_flow end (arc ∷ arcs) v = omega (
  arith,
  sum_by-cons (at_node end v) (arc, 0) (zip arcs (no_flow arcs)),
  flow_at-no_flow end arcs v,
  no_part (end arc == v),
)

-- A network without flow is a state.
IsState-no_flow : (n : Network) → IsNetwork n → IsState (record { network = n; flows = no_flow n.arcs })
IsState-no_flow n network =
    let none : (end : Arc → ℕ) (v : ℕ) → flow_at end n.arcs (no_flow n.arcs) v ≡ 0 = λ end v. flow_at-no_flow end n.arcs v in
    record {
      network = network;
      flow = record {
        within = within-no_flow n.arcs;
        conserved = λ v inner. omega (arith, none (λ arc. arc.tail) v, none (λ arc. arc.head) v);
      };
      value_from_zero = omega (arith, ints, none (λ arc. arc.tail) n.source, none (λ arc. arc.head) n.source);
    }

-- Solving from there ends at a maximum flow.
pub some-greatest_flow : HasGreatestFlow
some-greatest_flow n network =
    let s : NetworkState = record { network = n; flows = no_flow n.arcs } in
    let outcome = some-outcome s Solve (IsState-no_flow n network) refl in
    let flow = subst (λ m. IsFlow m outcome.after.flows) outcome.becomes.0 outcome.state.flow in
    (outcome.after.flows, greatest-from_no_path n outcome.after.flows network flow outcome.becomes.1.no_path)
