-- Whether a flow is greatest, from the result of a search for augmenting paths.
use Rattle.std.proofs.Common.{ℕ, ◌≡◌, ◌↔◌, true, false, Bool, not, Option, Some, None, refl}
use Rattle.std.specs.Bool.{IsTrue}
use Rattle.std.specs.Option.{MatchOption, is_some}
use Rattle.dmf_path.specs.Path.{HasNoPath}
use Rattle.dmf_path.specs.Pair.{steps_of}
use Rattle.dmf_path.specs.declared.search.AugmentingPath.{AugmentingPath}
use Rattle.dmf_path.specs.Search.{Searched, Augments}
use Rattle.dmf_solver.specs.Greatest.{IsGreatest, IsSurpassed}
use Rattle.dmf_state.specs.NetworkState.{NetworkState, IsState}
use Rattle.dmf_solver.specs.ResidualNetwork.{residual_search}
use Rattle.dmf_solver.specs.Residual.{residual_steps}
use Rattle.dmf_solver.proofs.cuts.GreatestFlow.{greatest-from_no_path}
use Rattle.dmf_solver.proofs.cuts.LargerFlow.{surpassed, not-surpassed}
use Rattle.dmf_solver.proofs.pairs.NetworkPairs.{search-least, search-no_path}

-- The answer is yes if the flow is greatest, and no if some flow has a larger value.
pub record IsAnswer (s : NetworkState) (answer : Bool) : Type 0 where
  pub yes : IsTrue answer ↔ IsGreatest s.network s.flows
  pub no : (answer ≡ false) ↔ IsSurpassed s.network s.flows

answer-yes : (s : NetworkState) → IsGreatest s.network s.flows → IsAnswer s true
answer-yes s greatest = record {
  yes = (λ told. greatest, λ is. refl);
  no = (λ told. absurd (let wrong : ⊥ = cc in wrong), λ larger. absurd (not-surpassed s.network s.flows greatest larger));
}

answer-no : (s : NetworkState) → IsSurpassed s.network s.flows → IsAnswer s false
answer-no s larger = record {
  yes = (λ told. absurd (let wrong : ⊥ = cc in wrong), λ greatest. absurd (not-surpassed s.network s.flows greatest larger));
  no = (λ told. larger, λ is. refl);
}

-- The answer is yes if no residual path leads from the source to the sink.
pub enclosed-answers : (s : NetworkState) → IsState s → HasNoPath (residual_steps s.network.arcs s.flows) s.network.source s.network.sink → IsAnswer s true
enclosed-answers s state none = answer-yes s (greatest-from_no_path s.network s.flows state.network state.flow none)

-- The search finds no path if the flow is greatest, and else one.
pub found-answers : (s : NetworkState) (limit : ℕ) (found : Option AugmentingPath) (old new : Searched) (answer : Bool) → IsState s
    → old ≡ residual_search s.network s.flows
    → MatchOption found (HasNoPath (steps_of old.pairs) old.start old.goal × (new ≡ old)) (λ path. Augments limit path old new) → is_some found ≡ not answer
    → IsAnswer s answer
found-answers s limit None old new true state is told e = enclosed-answers s state (search-no_path s.network s.flows old is told.0)
found-answers s limit None old new false state is told e = absurd (cc)
found-answers s limit (Some found) old new true state is told e = absurd (cc)
found-answers s limit (Some found) old new false state is told e =
    answer-no s (surpassed s.network s.flows told.path state.network state.flow (search-least s.network s.flows told.path old is told.least))
