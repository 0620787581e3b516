-- In each run a solve that is not refused leaves an optimal present state.
use Rattle.std.proofs.Common.{◌≡◌, ◌+◌, length, arith, Bool, Result, Ok, Err, sym, subst, ⊎_elim}
use Rattle.std.specs.Result.{OnOk}
use Rattle.dmf_session.specs.declared.command.Command.{Command}
use Rattle.dmf_session.specs.declared.command.Command.TheVariants.{Solve}
use Rattle.dmf_session.specs.declared.command.Reply.{Reply}
use Rattle.dmf_session.specs.declared.command.Refusal.{Refusal}
use Rattle.dmf_history.specs.Timeline.{Timeline, start}
use Rattle.dmf_session.specs.Step.{Steps, Answers}
use Rattle.dmf_session.specs.Optimal.{HasOptimalPresent}
use Rattle.dmf_session.specs.Laws.{HasStates, HasAnswer, HasOneAnswer, SolvedIsOptimal}
use Rattle.dmf_runs.specs.Laws.{AnswersOptimally, SolvesAreOptimal, RunsAreOptimal}
use Rattle.dmf_runs.proofs.LineLemmas.{answers-cases}
use Rattle.dmf_runs.proofs.Running.{HasStates-start, step-is-answer, Runs-lead, RunsAll-leads}

-- An answer leaves states, also if memory is refused.
Answers-keeps : HasAnswer → HasOneAnswer → (want_cut : Bool) (t u : Timeline) (command : Command) (result : Result Reply Refusal) → HasStates t
    → Answers want_cut t command result u → HasStates u
Answers-keeps some one want_cut t u command result has answers = ⊎_elim
    (λ (unchanged : u ≡ t). subst HasStates (sym unchanged) has)
    (λ (steps : Steps want_cut t command result u). (step-is-answer some one want_cut t u command result has steps).1)
    (answers-cases want_cut t command result u answers)

-- Each timeline of a run has states.
pub solves-are-optimal : HasAnswer → HasOneAnswer → SolvedIsOptimal → SolvesAreOptimal
solves-are-optimal some one solved want_cut brief bound s lines text refused t u reply state runs =
    let has = Runs-lead brief (λ _. HasStates) (Answers want_cut) (Answers want_cut) (1 + length lines) (λ number t has. has)
    (λ number t u command result few has answers. (answers, Answers-keeps some one want_cut t u command result has answers))
    1 (start bound s) lines text refused t (omega arith) (HasStates-start bound s state) runs in
    solved want_cut t u reply has.1

optimal-after : SolvedIsOptimal → (want_cut : Bool) (t u : Timeline) (command : Command) (result : Result Reply Refusal) → HasStates t
    → Answers want_cut t command result u → command ≡ Solve → OnOk result (HasOptimalPresent u)
optimal-after solved want_cut t u command (Ok reply) has answers is = solved want_cut t u reply has (subst (λ c. Answers want_cut t c (Ok reply) u) is answers)
optimal-after solved want_cut t u command (Err refusal) has answers is = tt

-- Each solve of a run comes to an optimal state.
pub runs-are-optimal : HasAnswer → HasOneAnswer → SolvedIsOptimal → RunsAreOptimal
runs-are-optimal some one solved want_cut brief bound s given text refused state = RunsAll-leads brief (Answers want_cut) (AnswersOptimally want_cut)
    (λ t u command result has answers. (
      record { answers = answers; optimal = optimal-after solved want_cut t u command result has answers },
      Answers-keeps some one want_cut t u command result has answers,
    ))
    (start bound s) given text refused (HasStates-start bound s state)
