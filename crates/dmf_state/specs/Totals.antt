-- What a `State` keeps beside its network and flow.
-- Private: only contracts inside the crate and proofs use this.
use Rattle.std.specs.Prelude.{ℕ, ◌≡◌}
use Rattle.dmf_state.specs.declared.flow_sums.NodeFlow.{NodeFlow}
use Rattle.dmf_state.specs.Arc.{capacity_sum, open_count}
use Rattle.dmf_state.specs.FlowSums.{IsNodeFlow}
use Rattle.dmf_state.specs.NetworkState.{NetworkState, IsState}

-- The numbers that a `State` keeps beside its network and flow, so that no call has to sum them again.
pub record KeepsTotals (s : NetworkState) (sum : ℕ) (source : NodeFlow) (count : ℕ) : Type 0 where
  pub state : IsState s
  pub sum_is : sum ≡ capacity_sum s.network.arcs
  pub at_source : IsNodeFlow s.network.arcs s.flows s.network.source source
  pub count_is : count ≡ open_count s.network.arcs
