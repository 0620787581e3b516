-- What is so of the present state after solving.
-- Public: a public contract says no more than this.
use Rattle.dmf_state.specs.NetworkState.{NetworkState}
use Rattle.dmf_solver.specs.Optimal.{IsOptimal}
use Rattle.dmf_history.specs.Timeline.{Timeline, IsPresent}

-- The present state is optimal.
pub record HasOptimalPresent (t : Timeline) : Type 0 where
  pub state : NetworkState
  pub present : IsPresent t state
  pub optimal : IsOptimal state
