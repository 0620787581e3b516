-- What checking a solution gives: the run reads the whole problem, then the whole solution, and then writes whether a flow has a larger
-- value.
-- Public: a public contract says no more than this.
use Rattle.std.specs.Prelude.{ℕ, ◌≡◌, ◌⊎◌, List, [], ◌∷◌, Bool, true, false, Option, Some, None, Result, Ok, Err, IfOk, codes, decimal, nat_abs, if◌then◌else◌}
use Rattle.dmf_state.specs.Flow.{flow_value}
use Rattle.dmf_solver.specs.Greatest.{IsGreatest, IsSurpassed}
use Rattle.dmf_state.specs.NetworkState.{NetworkState}
use Rattle.dmf_text.specs.declared.fault.SolutionFault.{SolutionFault}
use Rattle.dmf_text.specs.Solution.{solution_of}
use Rattle.dmf_text.specs.Writing.{Writes}
use Rattle.dmf_text.specs.Written.{written_line}
use Rattle.dmf_streams.specs.declared.fault.Status.{Status}
use Rattle.dmf_streams.specs.declared.fault.Status.TheVariants.{Well, NotGreatest}
use Rattle.dmf_streams.specs.declared.fault.EngineFault.{EngineFault}
use Rattle.dmf_streams.specs.declared.fault.EngineFault.TheVariants as fault
use Rattle.dmf_text.specs.Streams.{Reader, Writer}
use Rattle.dmf_streams.specs.Reading.{HasGiven, Reads, ReadsProblem}

-- ---- the verdict on a flow

-- No flow has a larger value, or some flow has.
abbrev pub IsVerdict : NetworkState → Bool → Type 0
IsVerdict s true = IsGreatest s.network s.flows
IsVerdict s false = IsSurpassed s.network s.flows

abbrev pub verdict_status : Bool → Status
verdict_status true = Well
verdict_status false = NotGreatest

-- `c greatest VALUE` or `c flow VALUE`
abbrev pub verdict_line : Bool → ℕ → List ℕ
verdict_line greatest value =
    written_line (codes "c" ∷ (if greatest then codes "greatest" else codes "flow") ∷ decimal value ∷ [])

-- the line of a state, whose value is not negative
abbrev pub verdict_text : NetworkState → Bool → List ℕ
verdict_text s greatest = verdict_line greatest (nat_abs (flow_value s.network s.flows))

-- ---- the run

abbrev pub solution_fault_in : EngineFault → Option SolutionFault
solution_fault_in (fault.Solution found) = Some found
solution_fault_in other = None

-- what reading a solution of this state's network gives
abbrev pub ReadsSolution : NetworkState → Reader → Reader → List ℕ → Result NetworkState EngineFault → Type 0
ReadsSolution s old new text result = Reads (solution_of s) solution_fault_in old new text result

-- what a run gets and gives: its two readers and its writer before and after, and the texts that the readers gave
pub record Checked : Type 0 where
  pub problem_old : Reader
  pub problem_new : Reader
  pub solution_old : Reader
  pub solution_new : Reader
  pub old : Writer
  pub new : Writer
  pub problem_text : List ℕ
  pub solution_text : List ℕ

-- The run wrote whether the state's flow is greatest, or a prefix of that if the writer failed. The status says the same.
pub record TellsVerdict (s : NetworkState) (old new : Writer) (result : Result Status EngineFault) : Type 0 where
  pub greatest : Bool
  pub verdict : IsVerdict s greatest
  pub writes : Writes old new result (verdict_text s greatest)
  pub status : IfOk result (λ status. status ≡ verdict_status greatest)

-- The problem text stands for a state, and the solution text for the same network with a flow, whose verdict was written.
pub record WritesVerdict (run : Checked) (result : Result Status EngineFault) : Type 0 where
  pub state : NetworkState
  pub problem : ReadsProblem run.problem_old run.problem_new run.problem_text (Ok state)
  pub solved : NetworkState
  pub solution : ReadsSolution state run.solution_old run.solution_new run.solution_text (Ok solved)
  pub told : TellsVerdict solved run.old run.new result

-- Reading the problem failed with this fault. The run read nothing of the solution, and wrote nothing.
pub record StopsAtProblem (run : Checked) (told : EngineFault) : Type 0 where
  pub problem : ReadsProblem run.problem_old run.problem_new run.problem_text (Err told)
  pub unread : run.solution_new ≡ run.solution_old
  pub unwritten : run.new ≡ run.old

-- The problem text stands for a state, and reading the solution failed with this fault. The run wrote nothing.
pub record StopsAtSolution (run : Checked) (told : EngineFault) : Type 0 where
  pub state : NetworkState
  pub problem : ReadsProblem run.problem_old run.problem_new run.problem_text (Ok state)
  pub solution : ReadsSolution state run.solution_old run.solution_new run.solution_text (Err told)
  pub unwritten : run.new ≡ run.old

-- Memory was refused. No read failed, and the run wrote nothing.
pub record IsRefusedMemory (run : Checked) : Type 0 where
  pub problem_mark : run.problem_new.has_failed ≡ run.problem_old.has_failed
  pub solution_mark : run.solution_new.has_failed ≡ run.solution_old.has_failed
  pub unwritten : run.new ≡ run.old

-- the result of a run that checks a solution
abbrev pub CheckAnswered : Checked → Result Status EngineFault → Type 0
CheckAnswered run (Ok status) = WritesVerdict run (Ok status)
CheckAnswered run (Err fault.Write) = WritesVerdict run (Err fault.Write)
CheckAnswered run (Err fault.NoMemory) = IsRefusedMemory run
CheckAnswered run (Err told) = StopsAtProblem run told ⊎ StopsAtSolution run told

-- A run that checks a solution, from the bytes that its two readers gave to those that its writer took.
abbrev pub RunsCheck : Reader → Reader → Reader → Reader → Writer → Writer → Result Status EngineFault → Type 0
RunsCheck problem_old problem_new solution_old solution_new old new result =
    HasGiven problem_old problem_new (λ problem_text. HasGiven solution_old solution_new (λ solution_text. CheckAnswered (record {
      problem_old = problem_old;
      problem_new = problem_new;
      solution_old = solution_old;
      solution_new = solution_new;
      old = old;
      new = new;
      problem_text = problem_text;
      solution_text = solution_text;
    }) result))
