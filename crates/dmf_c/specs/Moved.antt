-- What C gets of the flows that the last step moved.
-- Public: a public contract says no more than this.
use Rattle.std.specs.Prelude.{ℕ, ◌≡◌, ◌<◌, ◌==◌, if◌then◌else◌, List, length}
use Rattle.dmf_state.specs.declared.edit.Move.{Move}
use Rattle.dmf_state.specs.Edit.{differences}
use Rattle.dmf_state.specs.NetworkState.{NetworkState}
use Rattle.dmf_history.specs.Timeline.{Timeline, IsPresent, back}
use Rattle.dmf_c.specs.Arrays.{BeginsWith}
use Rattle.dmf_c.specs.Status.{DMF_OK, DMF_NOTHING_TO_UNDO}

-- This is so of what the last step moved: the arcs whose flow differs between the state before the present one and the present one, in ascending
-- order, each with its flow in both.
pub record OfLastStep (t : Timeline) (P : List Move → Type 0) : Type 0 where
  pub before : NetworkState
  pub after : NetworkState
  pub steps : 0 < t.place
  pub before_is : IsPresent (back t 1) before
  pub after_is : IsPresent t after
  pub so : P (differences 1 before.flows after.flows)

-- the answer to a caller that asks for it: that it is written, or that no state stands before the present one
abbrev pub moved_code : Timeline → ℕ
moved_code t = if t.place == 0 then DMF_NOTHING_TO_UNDO else DMF_OK

-- what is read past the end of a list of moves
abbrev pub no_move : Move
no_move = record { arc = 0; from = 0; to = 0 }

-- The arrays begin with the numbers of the arcs, the flows before and the flows after, each with as many as it has places for, and `found` is how
-- many arcs there are.
pub record HasMoves (moves : List Move) (arcs_before arcs_after froms_before froms_after tos_before tos_after : List ℕ) (found : ℕ) : Type 0 where
  pub arcs : BeginsWith (λ m. m.arc) no_move moves arcs_before arcs_after
  pub froms : BeginsWith (λ m. m.from) no_move moves froms_before froms_after
  pub tos : BeginsWith (λ m. m.to) no_move moves tos_before tos_after
  pub count : found ≡ length moves
