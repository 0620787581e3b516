-- Edits that are applied or reverted, and a last arc that can be dropped.
-- Public: a public contract says no more than this.
use Rattle.std.specs.Prelude.{ℕ, ◌≡◌, List, map, false}
use Rattle.dmf_state.specs.declared.arc.Arc.{Arc}
use Rattle.dmf_state.specs.declared.edit.Edit.{Edit}
use Rattle.dmf_state.specs.declared.edit.Move.{Move}
use Rattle.dmf_state.specs.declared.edit.Shutting.{Shutting}
use Rattle.dmf_state.specs.declared.moves.Direction.{Direction}
use Rattle.dmf_state.specs.declared.moves.Direction.TheVariants.{Forward, Back}
use Rattle.dmf_state.specs.NetworkState.{NetworkState, IsState, with_idle_arc}
use Rattle.dmf_state.specs.Edit.{applied, with_closed, AreOpenWith, Fits}
use Rattle.dmf_state.specs.Network.{Network}
use Rattle.dmf_state.specs.Revert.{opposite, reverted, Stands}

-- the move, or the one that reverts it
abbrev pub step_along : Direction → Move → Move
step_along Forward m = m
step_along Back m = opposite m

-- the moves, or the moves that revert them
abbrev pub along : Direction → List Move → List Move
along Forward moves = moves
along Back moves = map opposite moves

-- the capacity after a change, or the one before it
abbrev pub cap_along : Direction → ℕ → ℕ → ℕ
cap_along Forward before after = after
cap_along Back before after = before

-- The edit fits the state, or stands in it.
abbrev pub FitsAlong : Direction → Edit → NetworkState → Type 0
FitsAlong Forward edit s = Fits edit s
FitsAlong Back edit s = Stands edit s

-- the state that the edit makes of this one, or the state before the edit
abbrev pub edited_along : Direction → Edit → NetworkState → NetworkState
edited_along Forward edit s = applied edit s
edited_along Back edit s = reverted edit s

-- These arcs were closed together, and opening them gives a state.
pub record AreClosed (arcs : List Shutting) (t : NetworkState) : Type 0 where
  pub before : Network
  pub state : IsState (record { network = before; flows = t.flows })
  pub are_open : AreOpenWith 0 arcs before
  pub gives : with_closed arcs before ≡ t.network

-- The last arc is open and carries no flow, and without it this is a state.
pub record HasIdleLast (t : NetworkState) : Type 0 where
  pub before : NetworkState
  pub state : IsState before
  pub arc : Arc
  pub is_open : arc.closed ≡ false
  pub gives : with_idle_arc before arc ≡ t
