-- With the largest bound a run of a command text forgets no state.
use Rattle.std.proofs.Common.{ℕ, ◌≡◌, ◌+◌, ◌<◌, ◌≤◌, length, Bool, Result, ⊎_elim, refl, ◌∙◌, arith}
use Rattle.dmf_session.specs.declared.command.Command.{Command}
use Rattle.dmf_session.specs.declared.command.Reply.{Reply}
use Rattle.dmf_session.specs.declared.command.Refusal.{Refusal}
use Rattle.dmf_history.specs.Timeline.{Timeline, start, extended}
use Rattle.dmf_session.specs.Step.{Steps, Answers}
use Rattle.dmf_history.proofs.Appending.{within_bound-all}
use Rattle.dmf_runs.specs.Laws.{ForgetsNothing, AnswersForgettingNothing, MillionIsNeverForgotten}
use Rattle.dmf_session.proofs.Growing.{Grows, same, steps-grow}
use Rattle.dmf_runs.proofs.LineLemmas.{answers-cases}
use Rattle.dmf_runs.proofs.Running.{RunsAll-lead}

-- The timeline before this line: its list has at most as many states as the line's number.
record Stands (number : ℕ) (t : Timeline) : Type 0 where
  place : t.place < length t.states
  at_most : length t.states ≤ number
  bound : t.bound ≡ 1000000

forgets-nothing : (number : ℕ) (t : Timeline) → Stands number t → number ≤ 1000000 → ForgetsNothing t
forgets-nothing number t stands few s = within_bound-all (extended t s) (omega (arith, stands.place, stands.at_most, stands.bound, few))

answer-stands : (want_cut : Bool) (number : ℕ) (t u : Timeline) (command : Command) (result : Result Reply Refusal) → Stands number t
    → Answers want_cut t command result u → Stands (number + 1) u
answer-stands want_cut number t u command result stands answers =
    let grows : Grows t u = ⊎_elim (λ (e : u ≡ t). same t u stands.place e)
    (λ (s : Steps want_cut t command result u). steps-grow want_cut t u command result stands.place s)
    (answers-cases want_cut t command result u answers) in
    record { place = grows.place; at_most = omega (arith, grows.at_most, stands.at_most); bound = grows.bound ∙ stands.bound }

-- No run of at most 1,000,000 lines forgets a state.
pub never-forgotten : MillionIsNeverForgotten
never-forgotten want_cut brief s given text refused =
    RunsAll-lead brief Stands (Answers want_cut) (AnswersForgettingNothing want_cut) 1000000
    (λ number t stands. record { place = stands.place; at_most = omega (arith, stands.at_most); bound = stands.bound })
    (λ number t u command result few stands answers. (
      record { answers = answers; forgets_nothing = forgets-nothing number t stands few },
      answer-stands want_cut number t u command result stands answers,
    ))
    (start 1000000 s) given text refused (record { place = omega arith; at_most = omega arith; bound = refl })
