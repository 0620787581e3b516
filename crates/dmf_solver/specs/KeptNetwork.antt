-- The residual network that a caller keeps while the state changes, with the search that drains use.
-- Public: a public contract says no more than this.
use Rattle.std.specs.Prelude.{Option, IfSome}
use Rattle.dmf_path.specs.Search.{Searched}
use Rattle.dmf_state.specs.NetworkState.{NetworkState}
use Rattle.dmf_solver.specs.CarryingNetwork.{MayCarry}
use Rattle.dmf_solver.specs.ResidualNetwork.{IsResidualOf}

-- the search for augmenting paths, and the search over carrying steps, if it is made
pub record KeptNetwork : Type 0 where
  pub residual : Searched
  pub carrying : Option Searched

-- It is the network of this state. A drain sets the room of the return link before it begins.
pub record IsNetworkOf (s : NetworkState) (kept : KeptNetwork) : Type 0 where
  pub residual : IsResidualOf s kept.residual
  pub carrying : IfSome kept.carrying (MayCarry s)

-- If a network is kept, it is the network of this state.
abbrev pub KeepsNetwork : NetworkState → Option KeptNetwork → Type 0
KeepsNetwork s kept = IfSome kept (IsNetworkOf s)
