-- What the words of the program's arguments ask for.
-- Public: a public contract says no more than this and the command line.
use Rattle.std.specs.Prelude.{ℕ, ◌≡◌, ◌≢◌, ◌⊎◌, ◌≤◌, Bool, false, true, List, [], ◌∷◌, Option, Some, None, Result, Ok, Err, MatchResult, IsErrAnd, codes, ⊤}
use Rattle.std.specs.Str.Parse.{IsNumeral, digits_value, without_leading_plus}
use Rattle.clap.specs.Words.{IsAmong, Kinds, Text}
use Rattle.clap.specs.Values.{bool_text}
use Rattle.clap.specs.declared.error.kind.ErrorKind.{ErrorKind}
use Rattle.clap.specs.declared.error.kind.ErrorKind.TheVariants.{DisplayHelp, DisplayVersion, OutOfMemory}
use Rattle.dmf_arguments.specs.CommandLine.{Asked, asked_in, faults_in}
use Rattle.dmf_arguments.specs.declared.words.Arguments.{Arguments}
use Rattle.dmf_arguments.specs.declared.words.Mode.{Mode}
use Rattle.dmf_arguments.specs.declared.words.Mode.TheVariants as mode
use Rattle.dmf_arguments.specs.declared.words.Parts.{Parts}
use Rattle.dmf_arguments.specs.declared.words.Parts.TheVariants.{Arcs, Nodes, Seconds, WorstArcs, WorstNodes, WorstPairs}
use Rattle.dmf_arguments.specs.declared.words.WordsFault.{WordsFault}
use Rattle.dmf_arguments.specs.declared.words.WordsFault.TheVariants.{Help, Usage, NoMemory}

-- The task of the program, with the path of the problem's file. A solve and a session say whether the cut is wanted, whether a solve is
-- answered briefly, and last whether progress is wanted where standard error is no terminal. A solve also says before that whether any
-- greatest flow will do, and a session after it the bound of its history. A run that leaves out parts in turn has no path, and says which, and
-- whether progress is wanted.
pub data Task : Type 0 where
  solving : Bool → Bool → Bool → Bool → Task
  holding : Bool → Bool → Bool → ℕ → Text → Task
  checking : Text → Task
  valuing : Parts → Bool → Task

abbrev pub task_with : Bool → Bool → Mode → Task
task_with brief progress (mode.Solve cut any) = solving cut brief any progress
task_with brief progress (mode.Session cut history problem) = holding cut brief progress history problem.bytes.items
task_with brief progress (mode.Check problem) = checking problem.bytes.items
task_with brief progress (mode.Vital parts) = valuing parts progress

abbrev pub task_of : Arguments → Task
task_of asked = task_with asked.brief asked.progress asked.mode

-- Reading the words gave this task, or memory was refused.
abbrev pub GivesTask : Task → Result Arguments WordsFault → Type 0
GivesTask task = λ result. MatchResult result (λ asked. task_of asked ≡ task) (λ fault. fault ≡ NoMemory)

-- It is a fault of the words, or memory was refused.
abbrev pub IsUsage : WordsFault → Type 0
IsUsage (Help text) = ⊥
IsUsage (Usage text) = ⊤
IsUsage NoMemory = ⊤

-- The bound of a session's history is at most 1,000,000.
abbrev pub HasBound : Mode → Type 0
HasBound (mode.Solve cut any) = ⊤
HasBound (mode.Session cut history problem) = history ≤ 1000000
HasBound (mode.Check problem) = ⊤
HasBound (mode.Vital parts) = ⊤

-- The text writes this number: decimal digits, after a plus or not, of a number that is at most the largest.
pub record IsNumberUpTo (largest : ℕ) (text : Text) (number : ℕ) : Type 0 where
  pub numeral : IsNumeral 10 (without_leading_plus text)
  pub value : number ≡ digits_value 10 (without_leading_plus text)
  pub at_most : number ≤ largest

-- It is the bound of a session's history.
abbrev pub IsBound : Text → ℕ → Type 0
IsBound = IsNumberUpTo 1000000

-- Of the worst this many are asked for, by such a text, or all by none.
abbrev pub IsMost : Option Text → Option ℕ → Type 0
IsMost None None = ⊤
IsMost None (Some most) = ⊥
IsMost (Some text) None = ⊥
IsMost (Some text) (Some most) = IsNumberUpTo 10000 text most

-- The parts that are left out if second arcs, nodes, pairs and so many of the worst are asked for: pairs only with a number of them, and not
-- with nodes, and second arcs alone.
abbrev pub parts_of : Bool → Bool → Bool → Option ℕ → Option Parts
parts_of false false false None = Some Arcs
parts_of false true false None = Some Nodes
parts_of false false false (Some most) = Some (WorstArcs most)
parts_of false true false (Some most) = Some (WorstNodes most)
parts_of false false true (Some most) = Some (WorstPairs most)
parts_of false false true None = None
parts_of false true true most = None
parts_of true false false None = Some Seconds
parts_of true false false (Some most) = None
parts_of true false true most = None
parts_of true true pairs most = None

-- The words give what is asked for, or, where that can't be given, a fault.
abbrev pub GivesParts : Bool → Bool → Bool → Option ℕ → Result Parts WordsFault → Type 0
GivesParts second nodes pairs most result =
    MatchResult result (λ parts. parts_of second nodes pairs most ≡ Some parts)
    (λ fault. (parts_of second nodes pairs most ≡ None) × IsUsage fault)

-- Reading the words gave the task that leaves these out, or, of none, told what is wrong with them.
abbrev pub GivesValuing : Option Parts → Bool → Result Arguments WordsFault → Type 0
GivesValuing (Some parts) progress result = GivesTask (valuing parts progress) result
GivesValuing None progress result = IsErrAnd result IsUsage

-- ---- what a parse finds asks for a task: each flag by its text, `true` or `false`

-- No command asks to solve, with none of the flags.
abbrev pub AsksNothing : Option Asked → Result Arguments WordsFault → Type 0
AsksNothing asked result = asked ≡ None → GivesTask (solving false false false false) result

abbrev pub AsksSolve : Option Asked → Result Arguments WordsFault → Type 0
AsksSolve asked result = (cut brief any progress : Bool) (nodes pairs second text worst path : Option Text)
    → asked ≡ Some (record {
      command = codes "solve";
      cut = Some (bool_text cut);
      brief = Some (bool_text brief);
      any = Some (bool_text any);
      nodes = nodes;
      pairs = pairs;
      progress = Some (bool_text progress);
      second = second;
      history = text;
      worst = worst;
      problem = path;
    })
    → GivesTask (solving cut brief any progress) result

abbrev pub AsksSession : Option Asked → Result Arguments WordsFault → Type 0
AsksSession asked result = (cut brief progress : Bool) (any nodes pairs second worst : Option Text) (text : Text) (bound : ℕ) (path : Text)
    → asked ≡ Some (record {
      command = codes "session";
      cut = Some (bool_text cut);
      brief = Some (bool_text brief);
      any = any;
      nodes = nodes;
      pairs = pairs;
      progress = Some (bool_text progress);
      second = second;
      history = Some text;
      worst = worst;
      problem = Some path;
    })
    → IsBound text bound → GivesTask (holding cut brief progress bound path) result

abbrev pub AsksCheck : Option Asked → Result Arguments WordsFault → Type 0
AsksCheck asked result = (cut brief any nodes pairs progress second text worst : Option Text) (path : Text)
    → asked ≡ Some (record { command = codes "check"; cut = cut; brief = brief; any = any; nodes = nodes; pairs = pairs; progress = progress; second = second; history = text; worst = worst; problem = Some path })
    → GivesTask (checking path) result

abbrev pub AsksVital : Option Asked → Result Arguments WordsFault → Type 0
AsksVital asked result = (nodes pairs progress second : Bool) (cut brief any text worst path : Option Text) (most : Option ℕ)
    → asked ≡ Some (record {
      command = codes "vital";
      cut = cut;
      brief = brief;
      any = any;
      nodes = Some (bool_text nodes);
      pairs = Some (bool_text pairs);
      progress = Some (bool_text progress);
      second = Some (bool_text second);
      history = text;
      worst = worst;
      problem = path;
    })
    → IsMost worst most → GivesValuing (parts_of second nodes pairs most) progress result

abbrev pub Asks : Option Asked → Result Arguments WordsFault → Type 0
Asks asked result = AsksNothing asked result × AsksSolve asked result × AsksSession asked result × AsksCheck asked result × AsksVital asked result

-- ---- the answer to words that ask for no task

abbrev pub IsHelp : WordsFault → Type 0
IsHelp (Help text) = ⊤
IsHelp (Usage text) = ⊥
IsHelp NoMemory = ⊤

-- The answer to a fault of this kind. Help and the version are texts that the words ask for; any other fault is a fault of the words.
-- In place of each, memory may be refused.
pub record TellsKind (kind : ErrorKind) (fault : WordsFault) : Type 0 where
  pub memory : kind ≡ OutOfMemory → fault ≡ NoMemory
  pub help : kind ≡ DisplayHelp → IsHelp fault
  pub version : kind ≡ DisplayVersion → IsHelp fault
  pub usage : kind ≢ DisplayHelp → kind ≢ DisplayVersion → IsUsage fault

-- The answer is the one to a fault of these kinds, or memory was refused.
abbrev pub IsToldOf : Kinds → WordsFault → Type 0
IsToldOf kinds fault = (fault ≡ NoMemory) ⊎ ((kind : ErrorKind) × IsAmong kind kinds × TellsKind kind fault)

-- What reading the program's words gives, for every list of them. The first word is the program's name.
pub record ReadsWords (words : List Text) (result : Result Arguments WordsFault) : Type 0 where
  -- words without a fault give the task that they ask for, if there is one
  pub taken : faults_in words ≡ [] → Asks (asked_in words) result
  -- and other words fail
  pub refused : (kind : ErrorKind) (kinds : Kinds) → faults_in words ≡ kind ∷ kinds → IsErrAnd result (IsToldOf (kind ∷ kinds))

abbrev pub mode_of : Result Arguments WordsFault → Result Mode WordsFault
mode_of (Ok asked) = Ok asked.mode
mode_of (Err fault) = Err fault

-- The run alone: the mode of the task that the words ask for, or why they ask for none.
abbrev pub ReadsMode : List Text → Result Mode WordsFault → Type 0
ReadsMode words result = (asked : Result Arguments WordsFault) × ReadsWords words asked × (result ≡ mode_of asked)
