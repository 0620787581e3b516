-- What C gets of several commands that are carried out one after another.
-- Public: a public contract says no more than this.
use Rattle.std.specs.Prelude.{ℕ, Bool, ◌≡◌, ◌≢◌, ◌==◌, ◌&&◌, ◌++◌, if◌then◌else◌, List, [], ◌∷◌, Option, Some, None, drop, length, pos, MatchBool}
use Rattle.dmf_session.specs.declared.command.Command.{Command}
use Rattle.dmf_session.specs.declared.command.Command.TheVariants.{Cap, Add, Close, Shut, Solve, Undo, Redo}
use Rattle.dmf_state.specs.Flow.{flow_value}
use Rattle.dmf_history.specs.Timeline.{Timeline}
use Rattle.dmf_c.specs.Codes.{AnswersCode, OfPresent}
use Rattle.dmf_c.specs.Status.{DMF_OK, DMF_BAD_LENGTH, DMF_BAD_NUMBER}
use Rattle.dmf_c.specs.Status.{DMF_COMMAND_CAP, DMF_COMMAND_ADD, DMF_COMMAND_CLOSE, DMF_COMMAND_SHUT, DMF_COMMAND_SOLVE, DMF_COMMAND_UNDO, DMF_COMMAND_REDO}

-- the command of this kind, with as many of these numbers as it has, if there is such a kind
abbrev pub command_of : ℕ → ℕ → ℕ → ℕ → Option Command
command_of kind a b c =
    if kind == DMF_COMMAND_CAP then Some (Cap a b)
    else if kind == DMF_COMMAND_ADD then Some (Add a b c)
    else if kind == DMF_COMMAND_CLOSE then Some (Close a)
    else if kind == DMF_COMMAND_SHUT then Some (Shut a)
    else if kind == DMF_COMMAND_SOLVE then Some Solve
    else if kind == DMF_COMMAND_UNDO then Some (Undo a)
    else if kind == DMF_COMMAND_REDO then Some (Redo a)
    else None

-- the commands of these kinds with these numbers, in order
abbrev pub commands_of : List ℕ → List ℕ → List ℕ → List ℕ → List (Option Command)
commands_of (kind ∷ kinds) (a ∷ firsts) (b ∷ seconds) (c ∷ thirds) = command_of kind a b c ∷ commands_of kinds firsts seconds thirds
commands_of kinds firsts seconds thirds = []

-- The present flow has this value.
abbrev pub HasValue : Timeline → ℕ → Type 0
HasValue t value = OfPresent t (λ s. pos value ≡ flow_value s.network s.flows)

-- The command, given to a session with the timeline `t`, has an answer of this number, and leaves the timeline `u`; one of no kind is refused.
abbrev pub AnswersKind : Timeline → Option Command → ℕ → Timeline → Type 0
AnswersKind t (Some command) code u = AnswersCode t command code u
AnswersKind t None code u = (code ≡ DMF_BAD_NUMBER) × (u ≡ t)

-- The commands are carried out one after another from the timeline `t` on, up to the first that is refused. The values are those of the present flow
-- after each of them, the number is the answer to the last command, and `u` is the timeline at the end.
abbrev pub Runs : Timeline → List (Option Command) → List ℕ → ℕ → Timeline → Type 0
Runs t [] [] code u = (code ≡ DMF_OK) × (u ≡ t)
Runs t [] (value ∷ values) code u = ⊥
Runs t (command ∷ commands) [] code u = (code ≢ DMF_OK) × AnswersKind t command code u
Runs t (command ∷ commands) (value ∷ values) code u =
    (v : Timeline) × AnswersKind t command DMF_OK v × HasValue v value × Runs v commands values code u

-- The commands run so. The array begins with the values, and is otherwise as before; `done` is how many commands were carried out.
pub record HasRun (t : Timeline) (commands : List (Option Command)) (code : ℕ) (u : Timeline) (before after : List ℕ) (done : ℕ) : Type 0 where
  pub values : List ℕ
  pub runs : Runs t commands values code u
  pub written : after ≡ values ++ drop (length values) before
  pub count : done ≡ length values

-- whether these columns and this array have the same length
abbrev pub are_columns : List ℕ → List ℕ → List ℕ → List ℕ → List ℕ → Bool
are_columns kinds firsts seconds thirds values =
    length firsts == length kinds && length seconds == length kinds && length thirds == length kinds && length values == length kinds

-- The answer about these columns of commands and an array for the values: that their lengths differ, and nothing was done, or what the commands
-- did.
abbrev pub AnswersRun : Timeline → List ℕ → List ℕ → List ℕ → List ℕ → ℕ → Timeline → List ℕ → List ℕ → ℕ → ℕ → Type 0
AnswersRun t kinds firsts seconds thirds code u before after done_before done =
    MatchBool (are_columns kinds firsts seconds thirds before)
    (HasRun t (commands_of kinds firsts seconds thirds) code u before after done)
    ((code ≡ DMF_BAD_LENGTH) × (u ≡ t) × (after ≡ before) × (done ≡ done_before))
