-- Some greatest flow has no more on an arc than is lost without it.
use Rattle.std.proofs.Common.{ℕ, ◌≡◌, ◌+◌, ◌-◌, ◌<◌, ◌≤◌, List, [], ◌∷◌, length, refl, subst, arith, pos, ◌+ℤ◌, ◌≤ℤ◌, true, ◌*◌}
use Rattle.std.proofs.lemmas.Int.{ints}
use Rattle.std.proofs.lemmas.Slice.Zip.{AllZip-long}
use Rattle.dmf_path.specs.Path.{has_rank, bottleneck}
use Rattle.dmf_path.specs.Step.{Step}
use Rattle.dmf_state.specs.Flow.{flow_on, IsFlow, flow_value}
use Rattle.dmf_state.specs.Network.{Network, IsNetwork, has_arc}
use Rattle.dmf_state.specs.NetworkState.{IsState}
use Rattle.dmf_state.proofs.ChangedArc.{has_arc-within}
use Rattle.dmf_state.proofs.Summing.{part-le}
use Rattle.dmf_solver.specs.Change.{Solve}
use Rattle.dmf_solver.specs.Residual.{augmented}
use Rattle.dmf_solver.specs.Solve.{AugmentsInTurn}
use Rattle.dmf_solver.proofs.changes.SomeOutcome.{some-outcome}
use Rattle.dmf_solver.proofs.cuts.GreatestFlow.{greatest-from_no_path}
use Rattle.dmf_solver.proofs.solving.Augmenting.{get_or-augmented_from, augmented-flow, augmented-value}
use Rattle.dmf_vital.specs.Laws.{SomeFlowIsLoss}
use Rattle.dmf_vital.proofs.Bounds.{loss-at_most_flow}
use Rattle.dmf_vital.proofs.Closing.{flow-from_without, long-without, none-without, value-without}
use Rattle.dmf_vital.proofs.Values.{value-is_greatest}

-- Augmenting along a path raises the flow on an arc by at most the bottleneck.
augmented-on : (flows : List ℕ) (path : List Step) (j : ℕ) → j - 1 < length flows → flow_on (augmented path flows) j ≤ flow_on flows j + bottleneck path
augmented-on flows path j within =
    let now = get_or-augmented_from 1 (bottleneck path) path flows (j - 1) within in
    let up = part-le (has_rank path (2 * (1 + (j - 1)))) (bottleneck path) in
    omega (arith, now, up)

-- So augmenting in turn raises it by at most what the value gains.
augments-on : (n : Network) (j : ℕ) → IsNetwork n → has_arc n j ≡ true → (flows : List ℕ) (paths : List (List Step)) (last : List ℕ) → IsFlow n flows
    → AugmentsInTurn n flows paths last → (pos (flow_on last j) +ℤ flow_value n flows) ≤ℤ (pos (flow_on flows j) +ℤ flow_value n last)
augments-on n j network has flows [] last flow same = subst (λ xs. (pos (flow_on xs j) +ℤ flow_value n flows) ≤ℤ (pos (flow_on flows j) +ℤ flow_value n xs)) same
    (omega (arith, ints))
augments-on n j network has flows (path ∷ paths) last flow goes =
    let within : j - 1 < length flows = omega (arith, (has_arc-within n j has).1, AllZip-long _ n.arcs flows flow.within) in
    let next = augmented-flow n flows path network flow goes.0 in
    let later = augments-on n j network has (augmented path flows) paths last next goes.1 in
    omega (arith, ints, later, augmented-on flows path j within, augmented-value n flows path network flow goes.0)

-- Solving from a greatest flow of the network without the arc ends at a greatest flow that has no more on the arc than is lost.
pub some-flow_is_loss : SomeFlowIsLoss
some-flow_is_loss n j loss network is =
    let has = is.0 in
    let less = is.1.greatest_after.flows in
    let flow_less = is.1.greatest_after.greatest.flow in
    let flow = flow-from_without n j has less flow_less in
    let value = value-without n j has less (long-without n j has less flow_less) in
    let start : IsState (record { network = n; flows = less }) = record {
      network = network;
      flow = flow;
      value_from_zero = omega (arith, ints, value, is.1.greatest_after.value_is);
    } in
    let outcome = some-outcome (record { network = n; flows = less }) Solve start refl in
    let last = outcome.after.flows in
    let flow_last = subst (λ m. IsFlow m last) outcome.becomes.0 outcome.state.flow in
    let greatest = greatest-from_no_path n last network flow_last outcome.becomes.1.no_path in
    let grows = augments-on n j network has less outcome.becomes.1.paths last flow outcome.becomes.1.augments in
    let before = value-is_greatest n last is.1.before greatest is.1.greatest_before in
    let none = none-without n j has less flow_less in
    let least = loss-at_most_flow n last j loss network greatest is in (
      last,
      greatest,
      omega (arith, ints, grows, before, none, least, value, is.1.greatest_after.value_is, is.1.difference),
    )
