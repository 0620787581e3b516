-- The result of planning a change.
-- Public: a public contract says no more than this.
use Rattle.std.specs.Prelude.{ℕ, ◌≡◌, Bool, true, false, Option, Some, None, Result, Err, IsOkUnless, MatchOption}
use Rattle.dmf_state.specs.declared.edit.Edit.{Edit}
use Rattle.dmf_solver.specs.declared.fault.PlanFault.{PlanFault}
use Rattle.dmf_solver.specs.declared.fault.PlanFault.TheVariants.{NoMemory}
use Rattle.dmf_solver.specs.Change.{Change, Solve, change_fault, Becomes, IsEditOf}
use Rattle.dmf_state.specs.Cut.{HasCutOf}
use Rattle.dmf_solver.specs.Drain.{TakesOff}
use Rattle.dmf_state.specs.Edit.{applied, Fits, ListsDifferences}
use Rattle.dmf_state.specs.Flow.{flow_value}
use Rattle.dmf_solver.specs.Greatest.{IsGreatest}
use Rattle.dmf_state.specs.Network.{Network}
use Rattle.dmf_state.specs.NetworkState.{NetworkState}
use Rattle.dmf_state.specs.Side.{CutSide, IsSmallestSide}

-- If the change is refused, the result is its fault. If not, only want of memory refuses the plan.
abbrev pub IsRefusedFor : NetworkState → Change → Result Edit PlanFault → Type 0
IsRefusedFor s change answer = MatchOption (change_fault s change) (IsOkUnless answer NoMemory) (λ fault. answer ≡ Err fault)

-- The edit plans the change: it is an edit of this change, fits the state, makes what the change makes, and lists just the arcs whose
-- flow differs then.
pub record Plans (s : NetworkState) (change : Change) (edit : Edit) : Type 0 where
  pub kind : IsEditOf change edit
  pub fits : Fits edit s
  pub becomes : Becomes s change (applied edit s)
  pub moves : ListsDifferences edit s

-- The edit takes off flow, at most this amount.
abbrev pub EditTakesOff : NetworkState → ℕ → Edit → Type 0
EditTakesOff s amount edit = TakesOff s.network amount s.flows (applied edit s).flows

-- The edit plans a solve: the flow that it makes is greatest, and its value is the capacity of a cut.
pub record PlansSolve (s : NetworkState) (edit : Edit) : Type 0 where
  pub plan : Plans s Solve edit
  pub greatest : IsGreatest s.network (applied edit s).flows
  pub cut : HasCutOf s.network (flow_value s.network (applied edit s).flows)

-- The smallest side of the network if it is wanted, else `None`.
abbrev pub IsSideWanted : Bool → Network → Option CutSide → Type 0
IsSideWanted true n (Some side) = IsSmallestSide n side
IsSideWanted true n None = ⊥
IsSideWanted false n (Some side) = ⊥
IsSideWanted false n None = Unit {0}
