-- Augmenting along least paths, one after the other: the flow stays a flow, and its value grows up to a bound.
use Rattle.std.proofs.Common.{ℕ, List, [], ◌∷◌, ◌++◌, Result, Ok, Err, ap, subst, sym, arith}
use Rattle.std.specs.Prelude.{IfErr, IsErrAnd}
use Rattle.std.proofs.lemmas.Int.{ints}
use Rattle.dmf_path.specs.Step.{Step}
use Rattle.dmf_state.specs.Network.{Network}
use Rattle.dmf_state.specs.NetworkState.{NetworkState, IsState, with_flows}
use Rattle.dmf_path.specs.Path.{IsLeastPath}
use Rattle.dmf_solver.specs.Residual.{residual_steps, augmented}
use Rattle.dmf_solver.specs.Solve.{AugmentsInTurn}
use Rattle.dmf_solver.proofs.solving.Augmenting.{augmented-flow, augmented-value}

-- one more path, the last
pub Augments-push : (n : Network) (flows : List ℕ) (paths : List (List Step)) (last : List ℕ) (path : List Step) → AugmentsInTurn n flows paths last
    → IsLeastPath (residual_steps n.arcs last) n.source n.sink path → AugmentsInTurn n flows (paths ++ path ∷ []) (augmented path last)
Augments-push n flows [] last path augments least =
    (subst (λ now. IsLeastPath (residual_steps n.arcs now) n.source n.sink path) (sym augments) least, ap (augmented path) augments)
Augments-push n flows (first ∷ paths) last path augments least =
    (augments.0, Augments-push n (augmented first flows) paths last path augments.1 least)

-- Augmenting along least paths leads from the state's flow to these flows, which are a flow whose value is not negative.
pub record IsReached (s : NetworkState) (flows : List ℕ) : Type 0 where
  pub state : IsState (with_flows s flows)
  pub paths : List (List Step)
  pub augments : AugmentsInTurn s.network s.flows paths flows

-- augmenting keeps a state
pub IsState-augmented : (s : NetworkState) (flows : List ℕ) (path : List Step) → IsState (with_flows s flows)
    → IsLeastPath (residual_steps s.network.arcs flows) s.network.source s.network.sink path → IsState (with_flows s (augmented path flows))
IsState-augmented s flows path state least =
    let value = augmented-value s.network flows path state.network state.flow least in
    record {
      network = state.network;
      flow = augmented-flow s.network flows path state.network state.flow least;
      value_from_zero = omega (arith, ints, value, state.value_from_zero);
    }

-- one more path
abbrev pub reached-more : (s : NetworkState) (flows : List ℕ) (path : List Step) → IsReached s flows
    → IsLeastPath (residual_steps s.network.arcs flows) s.network.source s.network.sink path → IsReached s (augmented path flows)
reached-more s flows path reached least = record {
  state = IsState-augmented s flows path reached.state least;
  paths = reached.paths ++ path ∷ [];
  augments = Augments-push s.network s.flows reached.paths flows path reached.augments least;
}

-- What is known of a fault holds of it.
pub fault-only : {A E : Type 0} (result : Result A E) (P : E → Type 0) → IsErrAnd result P → IfErr result P
fault-only (Ok x) P is = tt
fault-only (Err fault) P is = is
