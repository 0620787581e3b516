-- If no memory is refused, each command has an answer, and only one; after a solve the present state is optimal; and a step back undoes
-- a change.
-- Public: a public contract says no more than this.
use Rattle.std.specs.Prelude.{ℕ, ◌≡◌, ◌≢◌, ◌<◌, length, All, Bool, Result, Ok, Err}
use Rattle.dmf_state.specs.NetworkState.{NetworkState, IsState}
use Rattle.dmf_session.specs.declared.command.Command.{Command}
use Rattle.dmf_session.specs.declared.command.Command.TheVariants.{Solve, Undo}
use Rattle.dmf_session.specs.declared.command.Reply.{Reply}
use Rattle.dmf_session.specs.declared.command.Reply.TheVariants.{Value}
use Rattle.dmf_session.specs.declared.command.Refusal.{Refusal}
use Rattle.dmf_session.specs.declared.command.Refusal.TheVariants.{NothingToUndo, NoMemory}
use Rattle.dmf_history.specs.Timeline.{Timeline, IsTimeline, IsPresent}
use Rattle.dmf_session.specs.Step.{Steps, Answers, IsChange, value_of}
use Rattle.dmf_session.specs.Optimal.{HasOptimalPresent}

-- The place is in the list, and the list has states.
pub record HasStates (t : Timeline) : Type 0 where
  pub place : t.place < length t.states
  pub states : All IsState t.states

-- An answer to the command: a result that is not want of memory, and the timeline after it, which has states again.
pub record Answered (want_cut : Bool) (t : Timeline) (command : Command) : Type 0 where
  pub result : Result Reply Refusal
  pub after : Timeline
  pub steps : Steps want_cut t command result after
  pub memory : result ≢ Err NoMemory
  pub has_states : HasStates after

-- Each command has an answer.
abbrev pub HasAnswer : Type 0
HasAnswer = (want_cut : Bool) (t : Timeline) (command : Command) → HasStates t → Answered want_cut t command

-- Each command has one answer: any two from one timeline agree, and leave the same timeline.
abbrev pub HasOneAnswer : Type 0
HasOneAnswer =
    (want_cut : Bool) (t u v : Timeline) (command : Command) (result other : Result Reply Refusal) → HasStates t
    → Steps want_cut t command result u → Steps want_cut t command other v → (result ≡ other) × (u ≡ v)

-- After a solve that was not refused the present state is optimal.
abbrev pub SolvedIsOptimal : Type 0
SolvedIsOptimal =
    (want_cut : Bool) (t u : Timeline) (reply : Reply) → HasStates t → Answers want_cut t Solve (Ok reply) u
    → HasOptimalPresent u

-- One step back after an accepted change. If a state is kept before the present one, the step is accepted, and the state before the
-- change is present again. If none is kept, the step is refused.
pub record UndoesChange (bound : ℕ) (before : NetworkState) (result : Result Reply Refusal) (u : Timeline) : Type 0 where
  pub kept : 0 < bound → (result ≡ Ok (Value (value_of before))) × IsPresent u before
  pub forgotten : bound ≡ 0 → result ≡ Err NothingToUndo

-- One step back right after an accepted change is accepted if and only if the bound is at least 1, and restores the state before the
-- change.
abbrev pub ChangeIsUndone : Type 0
ChangeIsUndone =
    (want_cut : Bool) (t u v : Timeline) (command : Command) (reply : Reply) (result : Result Reply Refusal) (s : NetworkState)
    → IsTimeline t → IsPresent t s → IsChange command → Answers want_cut t command (Ok reply) u → Steps want_cut u (Undo 1) result v
    → UndoesChange t.bound s result v
