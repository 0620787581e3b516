-- The result of a call for the smallest side of a state's network.
-- Public: a public contract says no more than this.
use Rattle.std.specs.Prelude.{◌≡◌, Result, IfErr, IfOk, OnOk, pos}
use Rattle.dmf_solver.specs.declared.fault.CutFault.{CutFault}
use Rattle.dmf_solver.specs.declared.fault.CutFault.TheVariants.{NotGreatest}
use Rattle.dmf_state.specs.Flow.{flow_value}
use Rattle.dmf_solver.specs.Greatest.{IsGreatest, IsSurpassed}
use Rattle.dmf_state.specs.NetworkState.{NetworkState}
use Rattle.dmf_state.specs.Side.{CutSide, IsSmallestSide}

-- The result is the smallest side of the state's network, and the state's flow is greatest: its value is the capacity of the side.
-- Or the result is a fault. The fault is that the flow is not greatest only if some flow has a larger value.
pub record TellsSide (s : NetworkState) (answer : Result CutSide CutFault) : Type 0 where
  pub side : IfOk answer (λ side. IsSmallestSide s.network side)
  pub value : IfOk answer (λ side. pos side.capacity ≡ flow_value s.network s.flows)
  pub greatest : OnOk answer (IsGreatest s.network s.flows)
  pub fault : IfErr answer (λ fault. fault ≡ NotGreatest → IsSurpassed s.network s.flows)
