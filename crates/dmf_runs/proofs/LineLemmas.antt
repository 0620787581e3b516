-- What one line leaves, one line more of a run, and runs that are put together.
use Rattle.std.proofs.Common.{ℕ, ◌≡◌, ◌≤◌, ◌+◌, List, [], ◌∷◌, ◌++◌, length, Bool, true, false, ◌||◌, Result, Err, ◌⊎◌, inl, inr, refl}
use Rattle.std.proofs.Common.{arith, append_assoc, append-nil}
use Rattle.std.proofs.Math.Bool.{or_assoc, or-false}
use Rattle.dmf_session.specs.declared.command.Command.{Command}
use Rattle.dmf_session.specs.declared.command.Reply.{Reply}
use Rattle.dmf_session.specs.declared.command.Refusal.{Refusal}
use Rattle.dmf_session.specs.declared.command.Refusal.TheVariants.{NoMemory}
use Rattle.dmf_history.specs.Timeline.{Timeline}
use Rattle.dmf_session.specs.Step.{Steps, Answers}
use Rattle.dmf_runs.specs.Line.{IsSplit, line_meaning}
use Rattle.dmf_runs.specs.Outcome.{RestRuns, RunsAll, line_count}
use Rattle.dmf_runs.specs.Run.{Answering, FirstAndMore, LineRuns, Runs}

-- An answer leaves the timeline unchanged, or it is a step.
pub answers-cases : (want_cut : Bool) (t : Timeline) (command : Command) (result : Result Reply Refusal) (u : Timeline) → Answers want_cut t command result u
    → (u ≡ t) ⊎ Steps want_cut t command result u
answers-cases want_cut t command (Err NoMemory) u a = inl a.1
answers-cases want_cut t command result u a = inr a

-- A first line and the lines after it, from their runs.
pub first-and-more : {First : List ℕ → Bool → Timeline → Type 0} {More : Timeline → List ℕ → Bool → Type 0} {text : List ℕ} {refused : Bool} (u : Timeline)
    (first : List ℕ) (here : Bool) (more : List ℕ) (later : Bool) → First first here u → More u more later → text ≡ first ++ more
    → refused ≡ (here || later) → FirstAndMore First More text refused
first-and-more u first here more later runs goes_on text_is refused_is = record {
  between = u;
  first = first;
  here = here;
  more = more;
  later = later;
  runs = runs;
  goes_on = goes_on;
  text_is = text_is;
  refused_is = refused_is;
}

-- one more line
pub Runs-push : (brief : Bool) (Gives : Answering) (number : ℕ) (t : Timeline) (lines : List (List ℕ)) (text : List ℕ) (refused : Bool) (u : Timeline)
    (line more : List ℕ) (later : Bool) (v : Timeline) → Runs brief Gives number t lines text refused u
    → LineRuns brief Gives (number + length lines) u (line_meaning true line) more later v
    → Runs brief Gives number t (lines ++ line ∷ []) (text ++ more) (refused || later) v
Runs-push brief Gives number t [] text refused u line more later v runs then =
    let here : number + 0 ≡ number = omega arith in
    first-and-more v more later [] false (rw (here, runs.2) at then) (refl, refl, refl) (cc (append-nil more)) (cc (or-false later))
Runs-push brief Gives number t (x ∷ lines) text refused u line more later v runs then =
    let place : number + length (x ∷ lines) ≡ number + 1 + length lines = omega arith in
    first-and-more runs.between runs.first runs.here (runs.more ++ more) (runs.later || later) runs.runs
    (Runs-push brief Gives (number + 1) runs.between lines runs.more runs.later u line more later v runs.goes_on (rw place at then))
    (cc (append_assoc runs.first runs.more more)) (cc (or_assoc runs.here runs.later later))

-- A whole text, from the runs of its lines and of its rest.
abbrev pub lines-and-rest : {brief : Bool} {Gives : Answering} {t : Timeline} {given text : List ℕ} {refused : Bool} {lines : List (List ℕ)} {rest : List ℕ}
    (u : Timeline) (first : List ℕ) (here : Bool) (last : List ℕ) (later : Bool) → IsSplit given lines rest → Runs brief Gives 1 t lines first here u
    → RestRuns brief Gives (length lines + 1) u rest last later → text ≡ first ++ last → refused ≡ (here || later) → RunsAll brief Gives t given text refused
lines-and-rest {lines = lines} {rest = rest} u first here last later split runs rest_runs text_is refused_is = record {
  lines = lines;
  rest = rest;
  split = split;
  between = u;
  first = first;
  here = here;
  last = last;
  later = later;
  runs = runs;
  rest_runs = rest_runs;
  text_is = text_is;
  refused_is = refused_is;
}

-- There are at most as many lines as are counted, and at most one is counted besides.
pub line_count-le : (lines : List (List ℕ)) (rest : List ℕ) → (length lines ≤ line_count lines rest) × (line_count lines rest ≤ length lines + 1)
line_count-le lines [] = (omega arith, omega arith)
line_count-le lines (byte ∷ rest) = (omega arith, omega arith)
