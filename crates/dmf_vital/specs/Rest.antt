-- A greatest flow of all arcs, and one of a state in which one arc is closed.
-- Private: only contracts inside the crate and proofs use this.
use Rattle.std.specs.Prelude.{ℕ, ◌≡◌, ◌<◌, ◌≤◌, true, All, List, length, slice_index}
use Rattle.dmf_state.specs.Network.{Network, has_arc}
use Rattle.dmf_state.specs.NetworkState.{NetworkState}
use Rattle.dmf_solver.specs.Greatest.{IsGreatest}
use Rattle.dmf_vital.specs.declared.rest.Rest.{Rest}
use Rattle.dmf_vital.specs.declared.rest.Whole.{Whole}
use Rattle.dmf_vital.specs.declared.worst.NumberedLoss.{NumberedLoss}
use Rattle.dmf_vital.specs.Ranks.{AreRanks}
use Rattle.dmf_vital.specs.Shifted.{IsReady}
use Rattle.dmf_vital.specs.Without.{without_arc}

-- The flow is ready to be moved, and no arc carries more than the largest.
pub record IsWhole (s : NetworkState) (whole : Whole) : Type 0 where
  pub ready : IsReady s whole.rerouting
  pub ranks : AreRanks s.network whole.rerouting.flows.items whole.ranks.items
  pub largest : (k : ℕ) → k < length whole.rerouting.flows.items → slice_index whole.rerouting.flows.items k ≤ whole.largest

-- The arcs of these losses are there.
abbrev pub AreThere : Network → List NumberedLoss → Type 0
AreThere n worst = All (λ w. has_arc n w.number ≡ true) worst

-- The copy's network is network `n` without an arc, its flow is greatest, and a greatest flow is ready to be moved.
pub record IsRest (n : Network) (rest : Rest) : Type 0 where
  pub is_there : has_arc n rest.without ≡ true
  pub network : rest.state.network ≡ without_arc n rest.without
  pub greatest : IsGreatest rest.state.network rest.state.flows
  pub ready : IsReady rest.state rest.rerouting
  pub ranks : AreRanks rest.state.network rest.rerouting.flows.items rest.ranks.items
