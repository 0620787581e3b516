-- What the program does: which run its arguments ask for, on what, and how it ends.
-- Public: a public contract says no more than this.
use Rattle.std.specs.Prelude.{ℕ, ◌≡◌, ◌⊎◌, List, [], ◌∷◌, ◌++◌, Bool, true, false, Result, Ok, Err, IfErr, codes}
use Rattle.std.specs.Str.{trim_end}
use Rattle.dmf_arguments.specs.Words.{Task, solving, holding, checking, valuing, task_of, ReadsWords}
use Rattle.dmf_arguments.specs.declared.words.Arguments.{Arguments}
use Rattle.dmf_arguments.specs.declared.words.Parts.{Parts}
use Rattle.dmf_arguments.specs.declared.words.Parts.TheVariants.{Arcs, Nodes, Seconds, WorstArcs, WorstNodes, WorstPairs}
use Rattle.dmf_arguments.specs.declared.words.WordsFault.{WordsFault}
use Rattle.dmf_arguments.specs.declared.words.WordsFault.TheVariants as words
use Rattle.dmf_text.specs.Streams.{Reader, Writer}
use Rattle.dmf_text.specs.Writing.{Writes}
use Rattle.dmf_text.specs.declared.writer.WriteFault.{WriteFault}
use Rattle.dmf_streams.specs.declared.fault.Status.{Status}
use Rattle.dmf_streams.specs.declared.fault.Status.TheVariants.{Well}
use Rattle.dmf_streams.specs.declared.fault.EngineFault.{EngineFault}
use Rattle.dmf_streams.specs.declared.fault.EngineFault.TheVariants as engine
use Rattle.dmf_solving.specs.SolveRun.{RunsSolve, RunsBrief, RunsAny}
use Rattle.dmf_solving.specs.CheckRun.{RunsCheck}
use Rattle.dmf_valuing.specs.Rows.{AreArcRows, AreNodeRows, AreWorstArcRows, AreWorstNodeRows, AreWorstPairRows}
use Rattle.dmf_valuing.specs.VitalRun.{RunsSecond, RunsVital}
use Rattle.dmf_runs.specs.Streams.{Streams}
use Rattle.dmf_runs.specs.Session.{RunsSessionWith}
use Rattle.dmf_host.specs.declared.fault.Fault.{Fault}
use Rattle.dmf_host.specs.declared.fault.Fault.TheVariants.{Usage, Run}
use Rattle.dmf_host.specs.Ending.{IsUnopened, exit_status, no_memory}

-- ---- files

-- What opening the file at a path may give: its reader, or why it cannot be read.
abbrev pub Opening : Type 1
Opening = List ℕ → Result Reader Fault → Type 0

-- ---- the run that a task asks for

-- how the program ends whose run ended so
abbrev pub ended : Result Status EngineFault → Result Status Fault
ended (Ok status) = Ok status
ended (Err fault) = Err (Run fault)

-- The program ends as a run that is so.
pub record EndsAs (Runs : Result Status EngineFault → Type 0) (result : Result Status Fault) : Type 0 where
  pub outcome : Result Status EngineFault
  pub runs : Runs outcome
  pub result_is : result ≡ ended outcome

-- A solve, with the cut if it is wanted: briefly for the value, else by any greatest flow if that will do, else for the solution.
abbrev pub RunsSolving : Bool → Bool → Bool → Reader → Reader → Writer → Writer → Result Status EngineFault → Type 0
RunsSolving cut true any = RunsBrief cut
RunsSolving cut false true = RunsAny cut
RunsSolving cut false false = RunsSolve cut

-- A run that leaves out each of these parts in turn, or also puts second arcs beside them.
abbrev pub RunsValuing : Parts → Reader → Reader → Writer → Writer → Result Status EngineFault → Type 0
RunsValuing Arcs = RunsVital AreArcRows
RunsValuing Seconds = RunsSecond
RunsValuing Nodes = RunsVital AreNodeRows
RunsValuing (WorstArcs most) = RunsVital (AreWorstArcRows most)
RunsValuing (WorstNodes most) = RunsVital (AreWorstNodeRows most)
RunsValuing (WorstPairs most) = RunsVital (AreWorstPairRows most)

-- The file at the path was opened, and the program ends as a run on its reader that is so.
pub record RunsOnFile (Opens : Opening) (path : List ℕ) (Runs : Reader → Reader → Result Status EngineFault → Type 0)
    (result : Result Status Fault) : Type 0 where
  pub from : Reader
  pub to : Reader
  pub opened : Opens path (Ok from)
  pub runs : EndsAs (Runs from to) result

-- The file at the path could not be opened: the program ends with the reason, and has read and written nothing.
pub record FindsNoFile (Opens : Opening) (path : List ℕ) (old new : Streams) (result : Result Status Fault) : Type 0 where
  pub fault : Fault
  pub refused : Opens path (Err fault)
  pub result_is : result ≡ Err fault
  pub untouched : new ≡ old

-- A run on the file at the path, if it can be opened.
abbrev pub RunsOn : Opening → List ℕ → Streams → Streams → (Reader → Reader → Result Status EngineFault → Type 0) → Result Status Fault → Type 0
RunsOn Opens path old new Runs result = RunsOnFile Opens path Runs result ⊎ FindsNoFile Opens path old new result

-- The run of a task, over standard input and standard output. A solve reads its problem from standard input, and so does a run that leaves
-- out parts in turn. A session and a check read it from the file at their path, and the commands or the solution from standard input.
-- Progress is no part of this: it goes to standard error, of which no definition speaks.
abbrev pub RunsTask : Opening → Task → Streams → Streams → Result Status Fault → Type 0
RunsTask Opens (solving cut brief any progress) old new result =
    EndsAs (RunsSolving cut brief any old.reader new.reader old.writer new.writer) result
RunsTask Opens (holding cut brief progress bound path) old new result =
    RunsOn Opens path old new (λ from to. RunsSessionWith (record { cut = cut; brief = brief }) bound from to old new) result
RunsTask Opens (checking path) old new result =
    RunsOn Opens path old new (λ from to. RunsCheck from to old.reader new.reader old.writer new.writer) result
RunsTask Opens (valuing parts progress) old new result = EndsAs (RunsValuing parts old.reader new.reader old.writer new.writer) result

-- ---- the program

-- Nothing is known of the files of a host. If one is not opened, the fault says that it cannot be, or that it is too long.
abbrev pub AnyFile : Opening
AnyFile path found = IfErr found IsUnopened

-- There were streams on which the task was run, and the program ends with the result of that run.
pub record HasRun (task : Task) (result : Result Status Fault) : Type 0 where
  pub old : Streams
  pub new : Streams
  pub runs : RunsTask AnyFile task old new result

-- The task is run, unless memory is refused before.
abbrev pub MayRun : Task → Result Status Fault → Type 0
MayRun task result = HasRun task result ⊎ (result ≡ Err no_memory)

-- How the program may end after a runner has run a task. Nothing else is known of a runner, so only its own run can show this.
abbrev pub Running : Type 1
Running = Task → Result Status Fault → Type 0

-- ---- what is written beside a run

-- the two streams on which words are answered
pub record Outputs : Type 0 where
  pub out : Writer
  pub err : Writer

abbrev pub outputs_of : Writer → Writer → Outputs
outputs_of out err = record { out = out; err = err }

-- A text that was asked for is shown whole, or, where there is no manual page, without the sentence on that and the blanks before it.
abbrev pub IsShown : List ℕ → List ℕ → Type 0
IsShown text shown =
    (shown ≡ text) ⊎ ((front : List ℕ) × (text ≡ front ++ codes "man dmf has the formats.\n") × (shown ≡ trim_end front ++ 10 ∷ []))

-- A writer got what is shown of the text, or a write failed.
abbrev pub WritesShown : List ℕ → Writer → Writer → Result (Unit {0}) WriteFault → Type 0
WritesShown text old new outcome = (shown : List ℕ) × IsShown text shown × Writes old new outcome shown

abbrev pub printed : Result (Unit {0}) WriteFault → Result Status Fault
printed (Ok done) = Ok Well
printed (Err fault) = Err (Run engine.Write)

-- The text that was asked for was written, and all is well, or a write failed.
pub record IsPrinted (text : List ℕ) (old new : Writer) (result : Result Status Fault) : Type 0 where
  pub outcome : Result (Unit {0}) WriteFault
  pub writes : WritesShown text old new outcome
  pub result_is : result ≡ printed outcome

-- The program ends with this fault, and has written nothing.
abbrev pub has_ended : Fault → Outputs → Outputs → Result Status Fault → Type 0
has_ended fault old new result = (new ≡ old) × (result ≡ Err fault)

-- What follows on these arguments: their task is run, unless memory is refused before, and the program ends as the runner does. What
-- follows where there are none: the text that was asked for is written on standard output, or that of wrong words on standard error, of
-- which the other gets nothing.
abbrev pub Follows : Running → Result Arguments WordsFault → Outputs → Outputs → Result Status Fault → Type 0
Follows Runs (Ok asked) old new result = (new ≡ old) × MayRun (task_of asked) result × Runs (task_of asked) result
Follows Runs (Err (words.Help text)) old new result = (new.err ≡ old.err) × IsPrinted text.bytes.items old.out new.out result
Follows Runs (Err (words.Usage text)) old new result =
    (new.out ≡ old.out) × ((told : Result (Unit {0}) WriteFault) × Writes old.err new.err told text.bytes.items) × (result ≡ Err Usage)
Follows Runs (Err words.NoMemory) old new result = has_ended no_memory old new result

-- What the program makes of its words, of which the first is its name: it reads them, and does what follows.
pub record RunsWords (Runs : Running) (words : List (List ℕ)) (old new : Outputs) (result : Result Status Fault) : Type 0 where
  pub read : Result Arguments WordsFault
  pub reads : ReadsWords words read
  pub follows : Follows Runs read old new result

-- The program ends with the status of a result that is so.
pub record Ends (IsSo : Result Status Fault → Type 0) (status : ℕ) : Type 0 where
  pub result : Result Status Fault
  pub is_so : IsSo result
  pub status_is : status ≡ exit_status result
