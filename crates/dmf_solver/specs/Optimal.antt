-- What is so of a state after solving (the max-flow min-cut theorem of Ford and Fulkerson).
-- Public: a public contract says no more than this.
use Rattle.std.specs.Prelude.{◌≡◌, pos}
use Rattle.dmf_state.specs.Flow.{flow_value}
use Rattle.dmf_state.specs.NetworkState.{NetworkState}
use Rattle.dmf_state.specs.Cut.{HasMinimumCutOf}
use Rattle.dmf_state.specs.Side.{CutSide, IsSmallestSide}
use Rattle.dmf_solver.specs.Greatest.{IsGreatest}

-- No flow of the network has a larger value than that of the state, and this value is the capacity of a minimum cut, and
-- so that of the smallest side.
pub record IsOptimal (s : NetworkState) : Type 0 where
  pub greatest : IsGreatest s.network s.flows
  pub minimum_cut : HasMinimumCutOf s.network (flow_value s.network s.flows)
  pub smallest_side : (side : CutSide) → IsSmallestSide s.network side → pos side.capacity ≡ flow_value s.network s.flows
