-- What C gets for the answer to a command.
-- Public: a public contract says no more than this.
use Rattle.std.specs.Prelude.{ℕ, ◌≡◌, ◌⊎◌, Bool, Result, Ok, Err, true, false}
use Rattle.dmf_state.specs.Arc.{open_arc}
use Rattle.dmf_state.specs.NetworkState.{NetworkState, with_idle_arc}
use Rattle.dmf_session.specs.declared.command.Command.{Command}
use Rattle.dmf_session.specs.declared.command.Command.TheVariants.{Solve}
use Rattle.dmf_session.specs.declared.command.Reply.{Reply}
use Rattle.dmf_session.specs.declared.command.Refusal.{Refusal}
use Rattle.dmf_session.specs.declared.command.Refusal.TheVariants.{UnknownCommand, FieldCount, NotANumber, TooLarge, LineTooLong}
use Rattle.dmf_session.specs.declared.command.Refusal.TheVariants.{NoSuchArc, Closed, NoSuchNode, TooManyArcs, SumTooLarge}
use Rattle.dmf_session.specs.declared.command.Refusal.TheVariants.{NothingToUndo, NothingToRedo, NotGreatest, NoMemory}
use Rattle.dmf_history.specs.Timeline.{Timeline, IsPresent}
use Rattle.dmf_session.specs.Step.{Answers}
use Rattle.dmf_c.specs.Status.{DMF_OK, DMF_NO_MEMORY, DMF_NO_SUCH_NODE, DMF_NO_SUCH_ARC, DMF_CLOSED, DMF_TOO_MANY_ARCS, DMF_SUM_TOO_LARGE}
use Rattle.dmf_c.specs.Status.{DMF_NOTHING_TO_UNDO, DMF_NOTHING_TO_REDO, DMF_NOT_GREATEST, DMF_STOPPED}

-- a refusal's number; a session that is called gives none of the last five
abbrev pub refusal_code : Refusal → ℕ
refusal_code NoMemory = DMF_NO_MEMORY
refusal_code NoSuchNode = DMF_NO_SUCH_NODE
refusal_code NoSuchArc = DMF_NO_SUCH_ARC
refusal_code Closed = DMF_CLOSED
refusal_code TooManyArcs = DMF_TOO_MANY_ARCS
refusal_code SumTooLarge = DMF_SUM_TOO_LARGE
refusal_code NothingToUndo = DMF_NOTHING_TO_UNDO
refusal_code NothingToRedo = DMF_NOTHING_TO_REDO
refusal_code NotGreatest = DMF_NOT_GREATEST
refusal_code UnknownCommand = 99
refusal_code FieldCount = 99
refusal_code NotANumber = 99
refusal_code TooLarge = 99
refusal_code LineTooLong = 99

-- the number of an answer: 0, or its refusal's
abbrev pub answer_code : Result Reply Refusal → ℕ
answer_code (Ok reply) = DMF_OK
answer_code (Err refusal) = refusal_code refusal

-- The command, given to a session with the timeline `t`, has an answer of this number, and leaves the timeline `u`.
pub record AnswersCode (t : Timeline) (command : Command) (code : ℕ) (u : Timeline) : Type 0 where
  pub answer : Result Reply Refusal
  pub answers : Answers false t command answer u
  pub code_is : code ≡ answer_code answer

-- the number of a solve's answer, if a flag may have ended the solve: if it has, that is why the solve was refused
abbrev pub until_code : Result Reply Refusal → Bool → ℕ
until_code (Err NoMemory) true = DMF_STOPPED
until_code answer has_stopped = answer_code answer

-- A solve that a flag may end has an answer of this number, and leaves the timeline `u`: that of the solve, or it was ended and `u` is `t`.
abbrev pub AnswersUntil : Timeline → ℕ → Timeline → Type 0
AnswersUntil t code u = ((code ≡ DMF_STOPPED) × (u ≡ t)) ⊎ AnswersCode t Solve code u

-- The answer to a call that a flag may end, in place of one of this number: the same, or that it was ended where memory would be refused.
abbrev pub Ends : ℕ → ℕ → Type 0
Ends plain code = (code ≡ plain) ⊎ ((plain ≡ DMF_NO_MEMORY) × (code ≡ DMF_STOPPED))

-- The number is one of these answers, or says that a flag has ended the call, where one of them says that memory was refused.
abbrev pub OrEnded : (ℕ → Type 0) → ℕ → Type 0
OrEnded Answer code = Answer code ⊎ (Answer DMF_NO_MEMORY × (code ≡ DMF_STOPPED))

-- The timeline `u` has as its present state that of `t` with one arc more, the last, from `tail` to `head` of this capacity, which carries
-- no flow. So its number is how many arcs there are.
pub record AddsLast (t : Timeline) (tail head cap : ℕ) (u : Timeline) : Type 0 where
  pub state : NetworkState
  pub before : IsPresent t state
  pub after : IsPresent u (with_idle_arc state (open_arc tail head cap))

-- This is so of the present state.
pub record OfPresent (t : Timeline) (P : NetworkState → Type 0) : Type 0 where
  pub state : NetworkState
  pub present : IsPresent t state
  pub so : P state
