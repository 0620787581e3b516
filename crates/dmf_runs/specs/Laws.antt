-- Each command text has a run, and only one if no memory is refused; its solves are optimal; and with the largest bound it forgets no
-- state.
-- Public: a public contract says no more than this.
use Rattle.std.specs.Prelude.{ℕ, ◌≡◌, ◌≤◌, List, Bool, Result, Ok, OnOk}
use Rattle.dmf_state.specs.NetworkState.{NetworkState, IsState}
use Rattle.dmf_session.specs.declared.command.Command.{Command}
use Rattle.dmf_session.specs.declared.command.Command.TheVariants.{Solve}
use Rattle.dmf_session.specs.declared.command.Reply.{Reply}
use Rattle.dmf_session.specs.declared.command.Refusal.{Refusal}
use Rattle.dmf_history.specs.Timeline.{Timeline, start, extended, appended}
use Rattle.dmf_session.specs.Step.{Steps, Answers}
use Rattle.dmf_session.specs.Optimal.{HasOptimalPresent}
use Rattle.dmf_runs.specs.Run.{Answering, Runs}
use Rattle.dmf_runs.specs.Outcome.{RunsAll, line_count}

-- A run of this command text from the timeline `t`: what it writes, and whether a line is refused.
pub record SomeRun (brief : Bool) (Gives : Answering) (t : Timeline) (given : List ℕ) : Type 0 where
  pub text : List ℕ
  pub refused : Bool
  pub runs : RunsAll brief Gives t given text refused

-- From the start of each state, with each bound, each command text has a run in which no command is refused memory.
abbrev pub HasRun : Type 0
HasRun = (want_cut brief : Bool) (bound : ℕ) (s : NetworkState) (given : List ℕ) → IsState s → SomeRun brief (Steps want_cut) (start bound s) given

-- It has one such run only: any two write the same text, and agree on whether a line is refused.
abbrev pub HasOneRun : Type 0
HasOneRun =
    (want_cut brief : Bool) (bound : ℕ) (s : NetworkState) (given text other : List ℕ) (refused also : Bool) → IsState s
    → RunsAll brief (Steps want_cut) (start bound s) given text refused → RunsAll brief (Steps want_cut) (start bound s) given other also
    → (text ≡ other) × (refused ≡ also)

-- A run in which no command is refused memory is also a run in which commands may be refused it.
abbrev pub StepsAreAnswers : Type 0
StepsAreAnswers =
    (want_cut brief : Bool) (bound : ℕ) (s : NetworkState) (given text : List ℕ) (refused : Bool) → IsState s
    → RunsAll brief (Steps want_cut) (start bound s) given text refused → RunsAll brief (Answers want_cut) (start bound s) given text refused

-- At each point of a run of lines, in which commands may be refused memory, a solve that is not refused leaves an optimal present
-- state.
abbrev pub SolvesAreOptimal : Type 0
SolvesAreOptimal =
    (want_cut brief : Bool) (bound : ℕ) (s : NetworkState) (lines : List (List ℕ)) (text : List ℕ) (refused : Bool) (t u : Timeline) (reply : Reply)
    → IsState s → Runs brief (Answers want_cut) 1 (start bound s) lines text refused t → Answers want_cut t Solve (Ok reply) u
    → HasOptimalPresent u

-- A command has this answer, and if it is a solve that is not refused, it leaves an optimal present state.
pub record AnswersOptimally (want_cut : Bool) (t : Timeline) (command : Command) (result : Result Reply Refusal) (u : Timeline) : Type 0 where
  pub answers : Answers want_cut t command result u
  pub optimal : command ≡ Solve → OnOk result (HasOptimalPresent u)

-- In each run of a command text, each solve that is not refused leaves an optimal present state.
abbrev pub RunsAreOptimal : Type 0
RunsAreOptimal =
    (want_cut brief : Bool) (bound : ℕ) (s : NetworkState) (given text : List ℕ) (refused : Bool) → IsState s
    → RunsAll brief (Answers want_cut) (start bound s) given text refused → RunsAll brief (AnswersOptimally want_cut) (start bound s) given text refused

-- Appending a state makes the timeline forget none: the new state follows those up to the present one.
abbrev pub ForgetsNothing : Timeline → Type 0
ForgetsNothing t = (s : NetworkState) → appended t s ≡ extended t s

-- A command has this answer, on a timeline that forgets no state when one is appended.
pub record AnswersForgettingNothing (want_cut : Bool) (t : Timeline) (command : Command) (result : Result Reply Refusal) (u : Timeline) : Type 0 where
  pub answers : Answers want_cut t command result u
  pub forgets_nothing : ForgetsNothing t

-- With the bound 1,000,000 no command forgets a state in a run of at most 1,000,000 lines: the list of states grows as if there were no
-- bound.
abbrev pub MillionIsNeverForgotten : Type 0
MillionIsNeverForgotten =
    (want_cut brief : Bool) (s : NetworkState) (given text : List ℕ) (refused : Bool)
    → (all : RunsAll brief (Answers want_cut) (start 1000000 s) given text refused) → line_count all.lines all.rest ≤ 1000000
    → RunsAll brief (AnswersForgettingNothing want_cut) (start 1000000 s) given text refused
