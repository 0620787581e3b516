-- If no memory is refused, each command text has one run.
use Rattle.std.proofs.Common.{ℕ, ◌≡◌, ◌+◌, List, [], ◌∷◌, length, Bool, true, false, Option, Some, None, Result, Ok, Err, sym, ap, ◌∙◌}
use Rattle.dmf_session.specs.declared.command.Command.{Command}
use Rattle.dmf_session.specs.declared.command.Reply.{Reply}
use Rattle.dmf_session.specs.declared.command.Refusal.{Refusal}
use Rattle.dmf_history.specs.Timeline.{Timeline, start}
use Rattle.dmf_session.specs.Step.{Steps}
use Rattle.dmf_session.specs.Laws.{HasStates, HasAnswer, HasOneAnswer}
use Rattle.dmf_runs.specs.Line.{line_meaning}
use Rattle.dmf_runs.specs.Run.{reply_text, Shows, LineRuns, Runs}
use Rattle.dmf_runs.specs.Outcome.{RestRuns}
use Rattle.dmf_runs.specs.Laws.{HasOneRun}
use Rattle.dmf_runs.proofs.Splitting.{one-split}
use Rattle.dmf_runs.proofs.Running.{HasStates-start, step-is-answer}

-- Both runs wrote the same text, and agree on whether a line was refused.
abbrev Same : List ℕ → List ℕ → Bool → Bool → Type 0
Same text other refused also = (text ≡ other) × (refused ≡ also)

-- A result has one text.
one-shown : (brief : Bool) (number : ℕ) (command : Command) (result : Result Reply Refusal) (u : Timeline) (text other : List ℕ) (refused also : Bool)
    → Shows brief number command result u text refused → Shows brief number command result u other also → Same text other refused also
one-shown brief number command (Ok reply) u text other refused also a b =
    let same : a.0 ≡ b.0 = cc in
    (a.2 ∙ ap (reply_text brief command reply) same ∙ sym b.2, cc)
one-shown brief number command (Err refusal) u text other refused also a b = (cc, cc)

module _ (some : HasAnswer) (one : HasOneAnswer) (want_cut brief : Bool) where
  -- one line, which also leaves the same timeline, with states
  one-line : (number : ℕ) (t : Timeline) (meaning : Result (Option Command) Refusal) (text other : List ℕ) (refused also : Bool) (u v : Timeline) → HasStates t
      → LineRuns brief (Steps want_cut) number t meaning text refused u → LineRuns brief (Steps want_cut) number t meaning other also v
      → Same text other refused also × (u ≡ v) × HasStates u
  one-line number t (Ok None) text other refused also u v has a b = ((cc, cc), cc, rw a.2 has)
  one-line number t (Ok (Some command)) text other refused also u v has a b =
      let same = one want_cut t u v command a.0 b.0 has a.1 b.1 in
      let shown = one-shown brief number command a.0 u text other refused also a.2 (rw (← same.0, ← same.1) at b.2) in
      (shown, same.1, (step-is-answer some one want_cut t u command a.0 has a.1).1)
  one-line number t (Err refusal) text other refused also u v has a b = ((cc, cc), cc, rw a.2 has)

  -- all lines
  one-lines : (number : ℕ) (t : Timeline) (lines : List (List ℕ)) (text other : List ℕ) (refused also : Bool) (u v : Timeline) → HasStates t
      → Runs brief (Steps want_cut) number t lines text refused u → Runs brief (Steps want_cut) number t lines other also v
      → Same text other refused also × (u ≡ v) × HasStates u
  one-lines number t [] text other refused also u v has a b = ((cc, cc), cc, rw a.2 has)
  one-lines number t (line ∷ lines) text other refused also u v has a b =
      let first = one-line number t (line_meaning true line) a.first b.first a.here b.here a.between b.between has a.runs b.runs in
      let more = one-lines (number + 1) a.between lines a.more b.more a.later b.later u v first.2 a.goes_on (rw (← first.1) at b.goes_on) in
      ((cc, cc), more.1, more.2)

  one-rest : (number : ℕ) (t : Timeline) (rest text other : List ℕ) (refused also : Bool) → HasStates t
      → RestRuns brief (Steps want_cut) number t rest text refused → RestRuns brief (Steps want_cut) number t rest other also → Same text other refused also
  one-rest number t [] text other refused also has a b = (cc, cc)
  one-rest number t (byte ∷ rest) text other refused also has a b =
      (one-line number t (line_meaning false (byte ∷ rest)) text other refused also a.0 b.0 has a.1 b.1).0

-- Each command text has one run from the start of each state.
pub has-one-run : HasAnswer → HasOneAnswer → HasOneRun
has-one-run some one want_cut brief bound s given text other refused also state a b =
    let splits = one-split given a.lines b.lines a.rest b.rest a.split b.split in
    let first = one-lines some one want_cut brief 1 (start bound s) a.lines a.first b.first a.here b.here a.between b.between (HasStates-start bound s state)
    a.runs (rw (← splits.0) at b.runs) in
    let last = one-rest some one want_cut brief (length a.lines + 1) a.between a.rest a.last b.last a.later b.later first.2 a.rest_runs
    (rw (← splits.0, ← splits.1, ← first.1) at b.rest_runs) in
    (cc, cc)
