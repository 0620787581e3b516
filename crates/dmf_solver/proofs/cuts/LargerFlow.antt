-- A flow is greatest if and only if no residual path leads from the source to the sink.
use Rattle.std.proofs.Common.{ℕ, List, arith, ⊎_elim}
use Rattle.std.proofs.lemmas.Int.{ints}
use Rattle.dmf_path.specs.Step.{Step}
use Rattle.dmf_state.specs.Network.{Network, IsNetwork}
use Rattle.dmf_state.specs.Flow.{IsFlow}
use Rattle.dmf_solver.specs.Greatest.{IsGreatest, IsSurpassed}
use Rattle.dmf_path.specs.Path.{IsPath, HasNoPath, IsLeastPath}
use Rattle.dmf_solver.specs.Residual.{residual_steps, augmented}
use Rattle.dmf_solver.proofs.solving.Augmenting.{room-positive, augmented-flow, augmented-value}
use Rattle.dmf_solver.proofs.solving.ResidualSteps.{AreSteps-residual}
use Rattle.dmf_path.proofs.paths.SomeLeast.{SomeLeast, least-or-none, least-path}

-- If a least path leads from the source to the sink, some flow has a larger value.
pub surpassed : (n : Network) (flows : List ℕ) (path : List Step) → IsNetwork n → IsFlow n flows
    → IsLeastPath (residual_steps n.arcs flows) n.source n.sink path → IsSurpassed n flows
surpassed n flows path network flow least = record {
  larger = augmented path flows;
  flow = augmented-flow n flows path network flow least;
  exceeds = omega (arith, ints, augmented-value n flows path network flow least, room-positive n flows path network.two_terminals least);
}

-- No flow has a larger value than a greatest flow.
pub not-surpassed : (n : Network) (flows : List ℕ) → IsGreatest n flows → ¬ IsSurpassed n flows
not-surpassed n flows greatest s = omega (arith, ints, s.exceeds, greatest.none_larger s.larger s.flow)

-- No path leads from the source to the sink in the residual network of a greatest flow.
pub no_path-from_greatest : (n : Network) (flows : List ℕ) → IsNetwork n → IsGreatest n flows → HasNoPath (residual_steps n.arcs flows) n.source n.sink
no_path-from_greatest n flows network greatest = ⊎_elim
    (λ (none : HasNoPath (residual_steps n.arcs flows) n.source n.sink). none)
    (λ (found : SomeLeast (residual_steps n.arcs flows) n.source n.sink). absurd
    (not-surpassed n flows greatest (surpassed n flows found.path network greatest.flow found.least)))
    (least-or-none (residual_steps n.arcs flows) (AreSteps-residual n.nodes n.arcs flows network.arcs).ascending n.source n.sink)

-- If a path leads from the source to the sink, some flow has a larger value.
pub surpassed-from_path : (n : Network) (flows : List ℕ) (path : List Step) → IsNetwork n → IsFlow n flows
    → IsPath (residual_steps n.arcs flows) n.source n.sink path → IsSurpassed n flows
surpassed-from_path n flows path network flow leads =
    let found = least-path (residual_steps n.arcs flows) (AreSteps-residual n.nodes n.arcs flows network.arcs).ascending n.source n.sink
    (record { path = path; leads = leads }) in
    surpassed n flows found.path network flow found.least
