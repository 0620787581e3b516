-- What a run of command lines writes.
-- Public: a public contract says no more than this.
use Rattle.std.specs.Prelude.{ℕ, ◌≡◌, ◌≢◌, ◌+◌, List, [], ◌∷◌, ◌++◌, codes, decimal, Bool, true, false, ◌||◌, Option, Some, None, Result, Ok, Err}
use Rattle.dmf_state.specs.NetworkState.{NetworkState}
use Rattle.dmf_state.specs.Side.{CutSide}
use Rattle.dmf_text.specs.Written.{written_line, problem_text, solution_text, cut_text}
use Rattle.dmf_solving.specs.Solved.{side_text, solved_text}
use Rattle.dmf_session.specs.declared.command.Command.{Command}
use Rattle.dmf_session.specs.declared.command.Command.TheVariants.{Solve}
use Rattle.dmf_session.specs.declared.command.Reply.{Reply}
use Rattle.dmf_session.specs.declared.command.Reply.TheVariants.{Value, Added, Solution, Problem, Flow, Cut}
use Rattle.dmf_session.specs.declared.command.Refusal.{Refusal}
use Rattle.dmf_history.specs.Timeline.{Timeline, IsPresent}
use Rattle.dmf_session.specs.RefusalText.{refusal_text}
use Rattle.dmf_session.specs.Step.{value_of}
use Rattle.dmf_runs.specs.CommandText.{word_of}
use Rattle.dmf_runs.specs.Line.{line_meaning}

-- `c WORD value V`
abbrev pub value_text : Command → ℕ → List ℕ
value_text command value = written_line (codes "c" ∷ word_of command ∷ codes "value" ∷ decimal value ∷ [])

-- `c WORD I value V`
abbrev pub added_text : Command → ℕ → ℕ → List ℕ
added_text command arc value =
    written_line (codes "c" ∷ word_of command ∷ decimal arc ∷ codes "value" ∷ decimal value ∷ [])

-- what a solve is answered by that left the state `s`: its solution or, where brief replies are wanted, `c solve value V`; and
-- this cut after it, if there is one
abbrev pub solve_text : Bool → NetworkState → Option CutSide → List ℕ
solve_text false s side = solved_text s side
solve_text true s side = value_text Solve (value_of s) ++ side_text side

-- the reply to a command that leaves the present state `s`; `brief` says whether brief replies are wanted
abbrev pub reply_text : Bool → Command → Reply → NetworkState → List ℕ
reply_text brief command (Value value) s = value_text command value
reply_text brief command (Added arc value) s = added_text command arc value
reply_text brief command (Solution side) s = solve_text brief s side
reply_text brief command Problem s = problem_text s.network
reply_text brief command Flow s = solution_text s
reply_text brief command (Cut side) s = cut_text side

-- the reply to a refused line
abbrev pub refused_text : ℕ → Refusal → List ℕ
refused_text number refusal = written_line (codes "c" ∷ codes "refused" ∷ decimal number ∷ refusal_text refusal ∷ [])

-- A session that is given the command in line `number`, with this result and `u` after it, writes this text. `refused` says whether it
-- refused the command.
abbrev pub Shows : Bool → ℕ → Command → Result Reply Refusal → Timeline → List ℕ → Bool → Type 0
Shows brief number command (Ok reply) u text refused =
    (s : NetworkState) × IsPresent u s × (text ≡ reply_text brief command reply s) × (refused ≡ false)
Shows brief number command (Err refusal) u text refused = (text ≡ refused_text number refusal) × (refused ≡ true)

-- A line with this meaning has a reply: it is neither blank nor a comment.
abbrev pub HasReply : Result (Option Command) Refusal → Type 0
HasReply meaning = meaning ≢ Ok None

-- A way of answering: which result a command on a timeline may have, and which timeline it leaves.
abbrev pub Answering : Type 1
Answering = Timeline → Command → Result Reply Refusal → Timeline → Type 0

-- A line with this meaning, in line `number`, turns the timeline `t` into `u` and writes the text. Commands are answered as `Gives`
-- says, and solves briefly if that is wanted.
abbrev pub LineRuns : Bool → Answering → ℕ → Timeline → Result (Option Command) Refusal → List ℕ → Bool → Timeline → Type 0
LineRuns brief Gives number t (Ok None) text refused u = (text ≡ []) × (refused ≡ false) × (u ≡ t)
LineRuns brief Gives number t (Ok (Some command)) text refused u =
    (result : Result Reply Refusal) × Gives t command result u × Shows brief number command result u text refused
LineRuns brief Gives number t (Err refusal) text refused u = (text ≡ refused_text number refusal) × (refused ≡ true) × (u ≡ t)

-- A first line, and the lines after it.
pub record FirstAndMore (First : List ℕ → Bool → Timeline → Type 0) (More : Timeline → List ℕ → Bool → Type 0)
    (text : List ℕ) (refused : Bool) : Type 0 where
  pub between : Timeline
  pub first : List ℕ
  pub here : Bool
  pub more : List ℕ
  pub later : Bool
  pub runs : First first here between
  pub goes_on : More between more later
  pub text_is : text ≡ first ++ more
  pub refused_is : refused ≡ (here || later)

-- These lines, each ended by a line feed and the first with this number, turn the timeline `t` into `u` and write the text; `refused`
-- says whether a line was refused. Commands are answered as `Gives` says, and solves briefly if that is wanted.
abbrev pub Runs : Bool → Answering → ℕ → Timeline → List (List ℕ) → List ℕ → Bool → Timeline → Type 0
Runs brief Gives number t [] text refused u = (text ≡ []) × (refused ≡ false) × (u ≡ t)
Runs brief Gives number t (line ∷ lines) text refused u =
    FirstAndMore (LineRuns brief Gives number t (line_meaning true line))
    (λ between more later. Runs brief Gives (number + 1) between lines more later u) text refused
