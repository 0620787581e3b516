-- The residual network that a session keeps.
-- Private: only contracts inside the crate and proofs use this.
use Rattle.std.specs.Prelude.{Option}
use Rattle.dmf_state.specs.declared.edit.Edit.{Edit}
use Rattle.dmf_state.specs.Edit.{applied}
use Rattle.dmf_state.specs.NetworkState.{NetworkState}
use Rattle.dmf_solver.specs.KeptNetwork.{KeptNetwork, KeepsNetwork}
use Rattle.dmf_history.specs.Timeline.{Timeline, IsPresent}

-- If a network is kept, it is the network of the present state.
abbrev pub KeepsPresent : Timeline → Option KeptNetwork → Type 0
KeepsPresent t kept = (s : NetworkState) → IsPresent t s → KeepsNetwork s kept

-- If there is a network, it is the network of the state that the edit makes of the present one.
abbrev pub KeepsApplied : Edit → Timeline → Option KeptNetwork → Type 0
KeepsApplied edit t kept = (s : NetworkState) → IsPresent t s → KeepsNetwork (applied edit s) kept
