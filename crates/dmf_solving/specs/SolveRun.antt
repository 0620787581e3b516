-- What solving a problem gives: the run reads the whole problem, solves it, and writes its solution, its value, or the solution of any
-- greatest flow; with a cut after it if one is wanted.
-- Public: a public contract says no more than this.
use Rattle.std.specs.Prelude.{ℕ, ◌≡◌, List, Bool, Option, Result, Ok, Err}
use Rattle.dmf_state.specs.NetworkState.{NetworkState}
use Rattle.dmf_solver.specs.Change.{Solve, Becomes}
use Rattle.dmf_state.specs.Side.{CutSide}
use Rattle.dmf_solver.specs.Greatest.{IsGreatest}
use Rattle.dmf_solver.specs.Planning.{IsSideWanted}
use Rattle.dmf_text.specs.Writing.{Writes}
use Rattle.dmf_streams.specs.declared.fault.Status.{Status}
use Rattle.dmf_streams.specs.declared.fault.Status.TheVariants.{Well}
use Rattle.dmf_streams.specs.declared.fault.EngineFault.{EngineFault}
use Rattle.dmf_streams.specs.declared.fault.EngineFault.TheVariants as fault
use Rattle.dmf_solving.specs.Solved.{solved_text, brief_text}
use Rattle.dmf_text.specs.Streams.{Reader, Writer}
use Rattle.dmf_streams.specs.Reading.{HasGiven, ReadsProblem}

-- The text stands for a state. The run wrote the solution that solving gives and, if one is wanted, the smallest cut after it, or a
-- prefix of that if the writer failed.
pub record WritesSolved (want_cut : Bool) (from to : Reader) (old new : Writer) (text : List ℕ) (result : Result Status EngineFault) : Type 0 where
  pub state : NetworkState
  pub problem : ReadsProblem from to text (Ok state)
  pub solved : NetworkState
  pub becomes : Becomes state Solve solved
  pub side : Option CutSide
  pub side_is : IsSideWanted want_cut solved.network side
  pub writes : Writes old new result (solved_text solved side)

-- The text stands for a state. The run wrote the value of the solution that solving gives and, if one is wanted, the smallest cut after it,
-- or a prefix of that if the writer failed.
pub record WritesValue (want_cut : Bool) (from to : Reader) (old new : Writer) (text : List ℕ) (result : Result Status EngineFault) : Type 0 where
  pub state : NetworkState
  pub problem : ReadsProblem from to text (Ok state)
  pub solved : NetworkState
  pub becomes : Becomes state Solve solved
  pub side : Option CutSide
  pub side_is : IsSideWanted want_cut solved.network side
  pub writes : Writes old new result (brief_text solved side)

-- The text stands for a state. The run wrote the solution of a state of the same network whose flow is greatest and, if one is wanted, the
-- smallest cut after it, or a prefix of that if the writer failed.
pub record WritesAny (want_cut : Bool) (from to : Reader) (old new : Writer) (text : List ℕ) (result : Result Status EngineFault) : Type 0 where
  pub state : NetworkState
  pub problem : ReadsProblem from to text (Ok state)
  pub solved : NetworkState
  pub network : solved.network ≡ state.network
  pub greatest : IsGreatest solved.network solved.flows
  pub side : Option CutSide
  pub side_is : IsSideWanted want_cut solved.network side
  pub writes : Writes old new result (solved_text solved side)

-- The result of a run that read this much of a problem's text, and wrote what `Wrote` says if it ended well or the writer failed; no other
-- results are possible. With every other error it wrote nothing.
abbrev pub SolveAnswered : (Result Status EngineFault → Type 0) → Reader → Reader → Writer → Writer → List ℕ → Result Status EngineFault → Type 0
SolveAnswered Wrote from to old new text (Ok Well) = Wrote (Ok Well)
SolveAnswered Wrote from to old new text (Ok status) = ⊥
SolveAnswered Wrote from to old new text (Err fault.Write) = Wrote (Err fault.Write)
SolveAnswered Wrote from to old new text (Err fault.NoMemory) = (to.has_failed ≡ from.has_failed) × (new ≡ old)
SolveAnswered Wrote from to old new text (Err told) = ReadsProblem from to text (Err told) × (new ≡ old)

-- A run that solves a problem, from the bytes that its reader gave to those that its writer took.
abbrev pub RunsSolve : Bool → Reader → Reader → Writer → Writer → Result Status EngineFault → Type 0
RunsSolve want_cut from to old new result =
    HasGiven from to (λ text. SolveAnswered (WritesSolved want_cut from to old new text) from to old new text result)

-- A run that solves a problem for its value.
abbrev pub RunsBrief : Bool → Reader → Reader → Writer → Writer → Result Status EngineFault → Type 0
RunsBrief want_cut from to old new result =
    HasGiven from to (λ text. SolveAnswered (WritesValue want_cut from to old new text) from to old new text result)

-- A run that solves a problem by any greatest flow.
abbrev pub RunsAny : Bool → Reader → Reader → Writer → Writer → Result Status EngineFault → Type 0
RunsAny want_cut from to old new result =
    HasGiven from to (λ text. SolveAnswered (WritesAny want_cut from to old new text) from to old new text result)
