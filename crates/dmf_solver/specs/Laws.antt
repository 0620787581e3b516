-- What is true of every network and of every change.
-- Public: a public contract says no more than this.
use Rattle.std.specs.Prelude.{ℕ, ◌≡◌, ◌⊎◌, List, None}
use Rattle.dmf_state.specs.Network.{Network, IsNetwork}
use Rattle.dmf_state.specs.Flow.{IsFlow, flow_value}
use Rattle.dmf_solver.specs.Greatest.{IsGreatest, IsSurpassed}
use Rattle.dmf_solver.specs.Optimal.{IsOptimal}
use Rattle.dmf_state.specs.Cut.{HasMinimumCutOf}
use Rattle.dmf_state.specs.Side.{CutSide, IsSmallestSide}
use Rattle.dmf_state.specs.NetworkState.{NetworkState, IsState}
use Rattle.dmf_solver.specs.Change.{Change, Solve, change_fault, Becomes}

-- ---- networks

-- A network has a maximum flow.
abbrev pub HasGreatestFlow : Type 0
HasGreatestFlow = (n : Network) → IsNetwork n → (flows : List ℕ) × IsGreatest n flows

-- Max-flow min-cut: the value of a maximum flow is the capacity of a minimum cut.
abbrev pub MaxFlowMinCut : Type 0
MaxFlowMinCut = (n : Network) (flows : List ℕ) → IsNetwork n → IsGreatest n flows → HasMinimumCutOf n (flow_value n flows)

-- A state of a network whose flow is greatest is optimal.
abbrev pub GreatestIsOptimal : Type 0
GreatestIsOptimal = (s : NetworkState) → IsNetwork s.network → IsGreatest s.network s.flows → IsOptimal s

-- A flow is greatest, or some flow has a larger value.
abbrev pub IsGreatestOrSurpassed : Type 0
IsGreatestOrSurpassed = (n : Network) (flows : List ℕ) → IsNetwork n → IsFlow n flows → IsGreatest n flows ⊎ IsSurpassed n flows

-- A network has a smallest side.
abbrev pub HasSmallestSide : Type 0
HasSmallestSide = (n : Network) → IsNetwork n → (side : CutSide) × IsSmallestSide n side

-- A network has one smallest side.
abbrev pub HasOneSmallestSide : Type 0
HasOneSmallestSide = (n : Network) (side other : CutSide) → IsSmallestSide n side → IsSmallestSide n other → side ≡ other

-- ---- changes

-- A state that the change makes of this one.
pub record Outcome (s : NetworkState) (change : Change) : Type 0 where
  pub after : NetworkState
  pub state : IsState after
  pub becomes : Becomes s change after

-- Every change that is not refused has an outcome.
abbrev pub HasOutcome : Type 0
HasOutcome = (s : NetworkState) (change : Change) → IsState s → change_fault s change ≡ None → Outcome s change

-- Any two outcomes of a change from one state are equal.
abbrev pub HasOneOutcome : Type 0
HasOneOutcome = (s t u : NetworkState) (change : Change) → IsState s → Becomes s change t → Becomes s change u → t ≡ u

-- Solving a state makes a maximum flow.
abbrev pub SolvedIsGreatest : Type 0
SolvedIsGreatest = (s t : NetworkState) → IsState s → Becomes s Solve t → IsGreatest t.network t.flows
