-- What a session gives: the run reads the problem, and then carries out the command lines on it.
-- Public: a public contract says no more than this.
use Rattle.std.specs.Prelude.{ℕ, ◌≡◌, ◌⊎◌, List, Bool, Result, Ok, Err}
use Rattle.dmf_state.specs.NetworkState.{NetworkState}
use Rattle.dmf_history.specs.Timeline.{start}
use Rattle.dmf_streams.specs.declared.fault.Status.{Status}
use Rattle.dmf_streams.specs.declared.fault.EngineFault.{EngineFault}
use Rattle.dmf_streams.specs.declared.fault.EngineFault.TheVariants as fault
use Rattle.dmf_runs.specs.declared.reply.SolveReply.{SolveReply}
use Rattle.dmf_text.specs.Streams.{Reader}
use Rattle.dmf_runs.specs.Streams.{Streams}
use Rattle.dmf_streams.specs.Reading.{HasGiven, ReadsProblem}
use Rattle.dmf_runs.specs.Outcome.{RunsCommandsWith, solutions}

-- No command byte was taken, and nothing was written.
abbrev pub Untouched : Streams → Streams → Type 0
Untouched old new = new ≡ old

-- The problem was read, and its command lines were run.
pub record RunsOn (wanted : SolveReply) (bound : ℕ) (from to : Reader) (old new : Streams) (text : List ℕ) (result : Result Status EngineFault) : Type 0 where
  pub state : NetworkState
  pub problem : ReadsProblem from to text (Ok state)
  pub runs : RunsCommandsWith wanted (start bound state) old new result

-- The result of a session whose reader gave this much of the problem's text. If it ran no line, it wrote nothing and took no command
-- byte.
abbrev pub SessionAnswered : SolveReply → ℕ → Reader → Reader → Streams → Streams → List ℕ → Result Status EngineFault → Type 0
SessionAnswered wanted bound from to old new text (Ok status) = RunsOn wanted bound from to old new text (Ok status)
SessionAnswered wanted bound from to old new text (Err fault.Write) = RunsOn wanted bound from to old new text (Err fault.Write)
SessionAnswered wanted bound from to old new text (Err fault.NoMemory) = Untouched old new × (to.has_failed ≡ from.has_failed)
SessionAnswered wanted bound from to old new text (Err told) =
    (ReadsProblem from to text (Err told) × Untouched old new) ⊎ RunsOn wanted bound from to old new text (Err told)

-- A session, from the bytes that its two readers gave to those that its writer took, with this wanted of its replies to solves. The
-- bound is the largest number of states that are kept before the present one.
abbrev pub RunsSessionWith : SolveReply → ℕ → Reader → Reader → Streams → Streams → Result Status EngineFault → Type 0
RunsSessionWith wanted bound from to old new result =
    HasGiven from to (λ text. SessionAnswered wanted bound from to old new text result)

-- A session whose replies to solves have solutions. `want_cut` says whether a cut is wanted after each.
abbrev pub RunsSession : Bool → ℕ → Reader → Reader → Streams → Streams → Result Status EngineFault → Type 0
RunsSession want_cut = RunsSessionWith (solutions want_cut)
