-- Each command text has a run, and a property of each answer is a property of each run.
use Rattle.std.proofs.Common.{ℕ, ◌≢◌, ◌≡◌, ◌+◌, ◌<◌, ◌≤◌, List, [], ◌∷◌, ◌++◌, length, Bool, true, false, ◌||◌, Option, Some, None, Result, Ok, Err, refl}
use Rattle.std.proofs.Common.{arith, ⊎_elim}
use Rattle.std.proofs.lemmas.List.Elements.{All-cons, All-nil}
use Rattle.std.proofs.lemmas.Option.{slice_get_cases}
use Rattle.dmf_state.specs.NetworkState.{NetworkState, IsState}
use Rattle.dmf_session.specs.declared.command.Command.{Command}
use Rattle.dmf_session.specs.declared.command.Reply.{Reply}
use Rattle.dmf_session.specs.declared.command.Refusal.{Refusal}
use Rattle.dmf_session.specs.declared.command.Refusal.TheVariants.{NoMemory}
use Rattle.dmf_history.specs.Timeline.{Timeline, IsPresent, start}
use Rattle.dmf_session.specs.Step.{Steps, Answers}
use Rattle.dmf_session.specs.Laws.{HasStates, HasAnswer, HasOneAnswer}
use Rattle.dmf_runs.specs.Line.{line_meaning}
use Rattle.dmf_runs.specs.Run.{Answering, reply_text, refused_text, Shows, LineRuns, Runs}
use Rattle.dmf_runs.specs.Outcome.{RestRuns, RunsAll, line_count}
use Rattle.dmf_runs.specs.Laws.{HasRun, StepsAreAnswers}
use Rattle.dmf_runs.proofs.LineLemmas.{first-and-more, lines-and-rest, line_count-le}
use Rattle.dmf_runs.proofs.Splitting.{some-split}

-- The start of a state has states.
pub HasStates-start : (bound : ℕ) (s : NetworkState) → IsState s → HasStates (start bound s)
HasStates-start bound s state = record { place = omega arith; states = All-cons IsState s [] state (All-nil IsState) }

-- If the place is in the list, there is a present state.
some-present : (t : Timeline) → t.place < length t.states → (s : NetworkState) × IsPresent t s
some-present t within = ⊎_elim
    (λ found. (found.0, found.2))
    (λ past. absurd (omega (arith, past.0, within)))
    (slice_get_cases t.states t.place).1

-- A text, whether a line was refused, and a timeline with states, of which this is true.
record SomeRan (Ran : List ℕ → Bool → Timeline → Type 0) : Type 0 where
  text : List ℕ
  refused : Bool
  after : Timeline
  runs : Ran text refused after
  has_states : HasStates after

-- Each result has a text.
some-shown : (brief : Bool) (number : ℕ) (command : Command) (result : Result Reply Refusal) (u : Timeline) → HasStates u
    → (text : List ℕ) × (refused : Bool) × Shows brief number command result u text refused
some-shown brief number command (Ok reply) u has =
    let s = some-present u has.place in
    (reply_text brief command reply s.0, false, (s.0, s.1, refl, refl))
some-shown brief number command (Err refusal) u has = (refused_text number refusal, true, (refl, refl))

module _ (answer : HasAnswer) (want_cut brief : Bool) where
  some-line : (number : ℕ) (t : Timeline) (meaning : Result (Option Command) Refusal) → HasStates t → SomeRan (LineRuns brief (Steps want_cut) number t meaning)
  some-line number t (Ok None) has = record { text = []; refused = false; after = t; runs = (refl, refl, refl); has_states = has }
  some-line number t (Ok (Some command)) has =
      let a = answer want_cut t command has in
      let is = some-shown brief number command a.result a.after a.has_states in
      record { text = is.0; refused = is.1; after = a.after; runs = (a.result, a.steps, is.2); has_states = a.has_states }
  some-line number t (Err refusal) has =
      record { text = refused_text number refusal; refused = true; after = t; runs = (refl, refl, refl); has_states = has }

  some-lines : (number : ℕ) (t : Timeline) (lines : List (List ℕ)) → HasStates t → SomeRan (Runs brief (Steps want_cut) number t lines)
  some-lines number t [] has = record { text = []; refused = false; after = t; runs = (refl, refl, refl); has_states = has }
  some-lines number t (line ∷ lines) has =
      let first = some-line number t (line_meaning true line) has in
      let rest = some-lines (number + 1) first.after lines first.has_states in
      record {
        text = first.text ++ rest.text;
        refused = first.refused || rest.refused;
        after = rest.after;
        runs = first-and-more first.after first.text first.refused rest.text rest.refused first.runs rest.runs refl refl;
        has_states = rest.has_states;
      }

  some-rest : (number : ℕ) (t : Timeline) (rest : List ℕ) → HasStates t
      → (text : List ℕ) × (refused : Bool) × RestRuns brief (Steps want_cut) number t rest text refused
  some-rest number t [] has = ([], false, (refl, refl))
  some-rest number t (byte ∷ rest) has =
      let line = some-line number t (line_meaning false (byte ∷ rest)) has in
      (line.text, line.refused, (line.after, line.runs))

-- Each command text has a run from the start of each state.
pub has-run : HasAnswer → HasRun
has-run answer want_cut brief bound s given state =
    let some = some-split given in
    let first = some-lines answer want_cut brief 1 (start bound s) some.lines (HasStates-start bound s state) in
    let last = some-rest answer want_cut brief (length some.lines + 1) first.after some.rest first.has_states in
    record {
      text = first.text ++ last.0;
      refused = first.refused || last.1;
      runs = lines-and-rest first.after first.text first.refused last.0 last.1 some.split first.runs last.2 refl refl;
    }

-- ---- from one way of answering to another

-- `Holds` is true of each timeline at which a line begins, with the line's number. With it, each answer up to the line `last` is also
-- one of the other way.
module _ (brief : Bool) (Holds : ℕ → Timeline → Type 0) (Gives Tells : Answering) (last : ℕ)
    (idle : (number : ℕ) (t : Timeline) → Holds number t → Holds (number + 1) t)
    (leads : (number : ℕ) (t u : Timeline) (command : Command) (result : Result Reply Refusal) → number ≤ last → Holds number t → Gives t command result u
    → Tells t command result u × Holds (number + 1) u) where
  line-leads : (number : ℕ) (t : Timeline) (meaning : Result (Option Command) Refusal) (text : List ℕ) (refused : Bool) (u : Timeline) → number ≤ last
      → Holds number t → LineRuns brief Gives number t meaning text refused u → LineRuns brief Tells number t meaning text refused u × Holds (number + 1) u
  line-leads number t (Ok None) text refused u few holds l = (l, rw l.2 (idle number t holds))
  line-leads number t (Ok (Some command)) text refused u few holds l =
      let next = leads number t u command l.0 few holds l.1 in
      ((l.0, next.0, l.2), next.1)
  line-leads number t (Err refusal) text refused u few holds l = (l, rw l.2 (idle number t holds))

  -- Lines of the first way are lines of the other, and what holds before them holds after them.
  pub Runs-lead : (number : ℕ) (t : Timeline) (lines : List (List ℕ)) (text : List ℕ) (refused : Bool) (u : Timeline) → number + length lines ≤ last + 1
      → Holds number t
      → Runs brief Gives number t lines text refused u → Runs brief Tells number t lines text refused u × Holds (number + length lines) u
  Runs-lead number t [] text refused u few holds runs =
      let same : number + 0 ≡ number = omega arith in
      (runs, rw (same, runs.2) holds)
  Runs-lead number t (line ∷ lines) text refused u few holds runs =
      let first = line-leads number t (line_meaning true line) runs.first runs.here runs.between (omega (arith, few)) holds runs.runs in
      let rest = Runs-lead (number + 1) runs.between lines runs.more runs.later u (omega (arith, few)) first.1 runs.goes_on in
      let place : number + length (line ∷ lines) ≡ number + 1 + length lines = omega arith in (
        first-and-more runs.between runs.first runs.here runs.more runs.later first.0 rest.0 runs.text_is runs.refused_is,
        rw place rest.1,
      )

  rest-leads : (t : Timeline) (lines : List (List ℕ)) (rest text : List ℕ) (refused : Bool) → line_count lines rest ≤ last → Holds (length lines + 1) t
      → RestRuns brief Gives (length lines + 1) t rest text refused → RestRuns brief Tells (length lines + 1) t rest text refused
  rest-leads t lines [] text refused few holds runs = runs
  rest-leads t lines (byte ∷ rest) text refused few holds runs =
      (runs.0, (line-leads (length lines + 1) t (line_meaning false (byte ∷ rest)) text refused runs.0 few holds runs.1).0)

  -- A whole run of the first way is one of the other.
  pub RunsAll-lead : (t : Timeline) (given text : List ℕ) (refused : Bool) → Holds 1 t → (all : RunsAll brief Gives t given text refused)
      → line_count all.lines all.rest ≤ last
      → RunsAll brief Tells t given text refused
  RunsAll-lead t given text refused holds all few =
      let first = Runs-lead 1 t all.lines all.first all.here all.between (omega (arith, line_count-le all.lines all.rest, few)) holds all.runs in
      let place : 1 + length all.lines ≡ length all.lines + 1 = omega arith in
      let rest = rest-leads all.between all.lines all.rest all.last all.later few (rw place at first.1) all.rest_runs in
      lines-and-rest all.between all.first all.here all.last all.later all.split first.0 rest all.text_is all.refused_is

-- An answer of the first way, on a timeline with states, is also one of the other, and leaves states.
abbrev pub Leads : Answering → Answering → Type 0
Leads Gives Tells =
    (t u : Timeline) (command : Command) (result : Result Reply Refusal) → HasStates t → Gives t command result u → Tells t command result u × HasStates u

-- So a run of the first way is one of the other.
pub RunsAll-leads : (brief : Bool) (Gives Tells : Answering) → Leads Gives Tells → (t : Timeline) (given text : List ℕ) (refused : Bool) → HasStates t
    → RunsAll brief Gives t given text refused → RunsAll brief Tells t given text refused
RunsAll-leads brief Gives Tells leads t given text refused has all =
    RunsAll-lead brief (λ _. HasStates) Gives Tells (line_count all.lines all.rest) (λ number t has. has) (λ number t u command result few.
    leads t u command result) t given text refused has all (omega arith)

-- ---- answers that need no refusal of memory

-- What a step gives is an answer, if no memory is refused,
not-memory : (want_cut : Bool) (t u : Timeline) (command : Command) (result : Result Reply Refusal) → result ≢ Err NoMemory → Steps want_cut t command result u
    → Answers want_cut t command result u
not-memory want_cut t u command (Err NoMemory) memory steps = absurd (memory refl)
not-memory want_cut t u command result memory steps = steps

-- and a command's one answer is no refusal of memory, and leaves states.
pub step-is-answer : HasAnswer → HasOneAnswer → (want_cut : Bool) → Leads (Steps want_cut) (Answers want_cut)
step-is-answer some one want_cut t u command result has steps =
    let a = some want_cut t command has in
    let same = one want_cut t a.after u command a.result result has a.steps steps in
    (not-memory want_cut t u command result (rw (← same.0) a.memory) steps, rw (← same.1) a.has_states)

-- A run in which no command is refused memory is also a run in which commands may be refused it.
pub steps-are-answers : HasAnswer → HasOneAnswer → StepsAreAnswers
steps-are-answers some one want_cut brief bound s given text refused state =
    RunsAll-leads brief (Steps want_cut) (Answers want_cut) (step-is-answer some one want_cut) (start bound s) given text refused
    (HasStates-start bound s state)
