-- The greatest value of a flow of a network.
-- Public: a public contract says no more than this.
use Rattle.std.specs.Prelude.{ℕ, ◌≡◌, List, pos}
use Rattle.dmf_state.specs.Flow.{flow_value}
use Rattle.dmf_state.specs.Network.{Network}
use Rattle.dmf_solver.specs.Greatest.{IsGreatest}

-- Some flow has this value, and no flow of the network has a larger one.
pub record IsGreatestValue (n : Network) (value : ℕ) : Type 0 where
  pub flows : List ℕ
  pub greatest : IsGreatest n flows
  pub value_is : flow_value n flows ≡ pos value
