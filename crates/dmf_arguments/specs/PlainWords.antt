-- What clap's definition of a parse makes of plain words on the program's command line: the usual calls, and words that the program
-- refuses.
-- Public: the law `plain_words_are_read` says it.
use Rattle.std.specs.Prelude.{◌≡◌, ◌≢◌, ◌==◌, Bool, true, false, List, [], ◌∷◌, Option, Some, None, codes, ⊤}
use Rattle.std.specs.List.{AllByRecursion}
use Rattle.clap.specs.Words.{Kinds, Text}
use Rattle.clap.specs.Values.{bool_text}
use Rattle.clap.specs.declared.error.kind.ErrorKind.TheVariants.{ArgumentConflict, DisplayHelp, DisplayVersion, InvalidSubcommand, MissingRequiredArgument}
use Rattle.clap.specs.declared.error.kind.ErrorKind.TheVariants.{UnknownArgument}
use Rattle.dmf_arguments.specs.CommandLine.{Asked, asked_in, faults_in}

-- The word does not begin with a dash (45).
abbrev pub IsPlain : Text → Type 0
IsPlain [] = ⊤
IsPlain (byte ∷ rest) = (byte == 45) ≡ false

-- The word is no command: none of the four, nor `help`.
pub record IsNoCommand (word : Text) : Type 0 where
  pub plain : IsPlain word
  pub solve : word ≢ codes "solve"
  pub session : word ≢ codes "session"
  pub check : word ≢ codes "check"
  pub vital : word ≢ codes "vital"
  pub help : word ≢ codes "help"

-- Whatever the program's name, the faults of these words are of just these kinds.
abbrev pub HasFaults : Kinds → List Text → Type 0
HasFaults kinds words = (name : Text) → faults_in (name ∷ words) ≡ kinds

-- They have no fault, and a parse finds this.
abbrev pub IsTaken : List Text → Option Asked → Type 0
IsTaken words asked = HasFaults [] words × ((name : Text) → asked_in (name ∷ words) ≡ asked)

-- a solve, with the cut, a brief answer, any greatest flow and progress or without; a session, with the cut, brief replies and progress or
-- without; a check; a valuing of each arc or of each node, of all or of the worst, of the worst pairs of arcs, or of second arcs, with
-- progress or without
abbrev pub solve_of : Bool → Bool → Bool → Bool → Option Asked
solve_of cut brief any progress =
    Some (record {
      command = codes "solve";
      cut = Some (bool_text cut);
      brief = Some (bool_text brief);
      any = Some (bool_text any);
      nodes = None;
      pairs = None;
      progress = Some (bool_text progress);
      second = None;
      history = None;
      worst = None;
      problem = None;
    })

abbrev pub session_of : Bool → Bool → Bool → Text → Option Asked
session_of cut brief progress path =
    Some (record {
      command = codes "session";
      cut = Some (bool_text cut);
      brief = Some (bool_text brief);
      any = None;
      nodes = None;
      pairs = None;
      progress = Some (bool_text progress);
      second = None;
      history = Some (codes "1000000");
      worst = None;
      problem = Some path;
    })

abbrev pub check_of : Text → Option Asked
check_of path =
    Some (record { command = codes "check"; cut = None; brief = None; any = None; nodes = None; pairs = None; progress = None; second = None; history = None; worst = None; problem = Some path })

abbrev pub vital_of : Bool → Bool → Bool → Bool → Option Text → Option Asked
vital_of nodes pairs progress second worst =
    Some (record {
      command = codes "vital";
      cut = None;
      brief = None;
      any = None;
      nodes = Some (bool_text nodes);
      pairs = Some (bool_text pairs);
      progress = Some (bool_text progress);
      second = Some (bool_text second);
      history = None;
      worst = worst;
      problem = None;
    })

-- words that begin with an option, whatever stands after it
abbrev pub misplaced : List Text → List (List Text)
misplaced rest = (codes "--cut" ∷ rest) ∷ (codes "--brief" ∷ rest) ∷ (codes "--any" ∷ rest) ∷ (codes "--nodes" ∷ rest) ∷ (codes "--pairs" ∷ rest)
    ∷ (codes "--progress" ∷ rest) ∷ (codes "--second" ∷ rest) ∷ (codes "--history" ∷ rest) ∷ (codes "--worst" ∷ rest) ∷ []

-- words with an option after a command that does not take it
abbrev pub strange : Text → List (List Text)
strange word = (codes "solve" ∷ codes "--history" ∷ word ∷ []) ∷ (codes "solve" ∷ codes "--worst" ∷ word ∷ [])
    ∷ (codes "solve" ∷ codes "--nodes" ∷ word ∷ []) ∷ (codes "solve" ∷ codes "--pairs" ∷ word ∷ []) ∷ (codes "solve" ∷ codes "--second" ∷ word ∷ [])
    ∷ (codes "session" ∷ codes "--any" ∷ word ∷ []) ∷ (codes "session" ∷ codes "--nodes" ∷ word ∷ []) ∷ (codes "session" ∷ codes "--pairs" ∷ word ∷ [])
    ∷ (codes "session" ∷ codes "--second" ∷ word ∷ []) ∷ (codes "session" ∷ codes "--worst" ∷ word ∷ [])
    ∷ (codes "check" ∷ codes "--any" ∷ word ∷ []) ∷ (codes "check" ∷ codes "--cut" ∷ word ∷ []) ∷ (codes "check" ∷ codes "--brief" ∷ word ∷ [])
    ∷ (codes "check" ∷ codes "--nodes" ∷ word ∷ []) ∷ (codes "check" ∷ codes "--pairs" ∷ word ∷ []) ∷ (codes "check" ∷ codes "--progress" ∷ word ∷ []) ∷ (codes "check" ∷ codes "--history" ∷ word ∷ [])
    ∷ (codes "check" ∷ codes "--second" ∷ word ∷ []) ∷ (codes "check" ∷ codes "--worst" ∷ word ∷ [])
    ∷ (codes "vital" ∷ codes "--any" ∷ word ∷ []) ∷ (codes "vital" ∷ codes "--cut" ∷ word ∷ []) ∷ (codes "vital" ∷ codes "--brief" ∷ word ∷ [])
    ∷ (codes "vital" ∷ codes "--history" ∷ word ∷ []) ∷ []

-- words that say an option twice
abbrev pub repeated : Text → List (List Text)
repeated word = (codes "solve" ∷ codes "--any" ∷ codes "--any" ∷ []) ∷ (codes "solve" ∷ codes "--brief" ∷ codes "--brief" ∷ [])
    ∷ (codes "solve" ∷ codes "--cut" ∷ codes "--cut" ∷ []) ∷ (codes "solve" ∷ codes "--progress" ∷ codes "--progress" ∷ [])
    ∷ (codes "session" ∷ codes "--cut" ∷ codes "--cut" ∷ word ∷ []) ∷ (codes "session" ∷ codes "--brief" ∷ codes "--brief" ∷ word ∷ [])
    ∷ (codes "session" ∷ codes "--progress" ∷ codes "--progress" ∷ word ∷ []) ∷ (codes "vital" ∷ codes "--nodes" ∷ codes "--nodes" ∷ [])
    ∷ (codes "vital" ∷ codes "--pairs" ∷ codes "--pairs" ∷ []) ∷ (codes "vital" ∷ codes "--progress" ∷ codes "--progress" ∷ [])
    ∷ (codes "vital" ∷ codes "--second" ∷ codes "--second" ∷ []) ∷ []

-- words that ask for help: alone, whatever stands after it, and after a command
abbrev pub helps : List Text → List (List Text)
helps rest = (codes "--help" ∷ rest) ∷ (codes "solve" ∷ codes "--help" ∷ []) ∷ (codes "session" ∷ codes "--help" ∷ [])
    ∷ (codes "check" ∷ codes "--help" ∷ []) ∷ (codes "vital" ∷ codes "--help" ∷ []) ∷ []

pub record PlainWords : Type 0 where
  pub nothing : IsTaken [] None
  pub solve : IsTaken (codes "solve" ∷ []) (solve_of false false false false)
  pub solve_cut : IsTaken (codes "solve" ∷ codes "--cut" ∷ []) (solve_of true false false false)
  pub solve_brief : IsTaken (codes "solve" ∷ codes "--brief" ∷ []) (solve_of false true false false)
  pub solve_any : IsTaken (codes "solve" ∷ codes "--any" ∷ []) (solve_of false false true false)
  pub solve_progress : IsTaken (codes "solve" ∷ codes "--progress" ∷ []) (solve_of false false false true)
  pub solve_all : IsTaken (codes "solve" ∷ codes "--any" ∷ codes "--brief" ∷ codes "--cut" ∷ codes "--progress" ∷ []) (solve_of true true true true)
  pub solve_turned : IsTaken (codes "solve" ∷ codes "--progress" ∷ codes "--cut" ∷ codes "--brief" ∷ []) (solve_of true true false true)
  pub session : (path : Text) → IsPlain path → IsTaken (codes "session" ∷ path ∷ []) (session_of false false false path)
  pub session_cut : (path : Text) → IsPlain path → IsTaken (codes "session" ∷ codes "--cut" ∷ path ∷ []) (session_of true false false path)
  pub cut_behind : (path : Text) → IsPlain path → IsTaken (codes "session" ∷ path ∷ codes "--cut" ∷ []) (session_of true false false path)
  pub check : (path : Text) → IsPlain path → IsTaken (codes "check" ∷ path ∷ []) (check_of path)
  pub vital : IsTaken (codes "vital" ∷ []) (vital_of false false false false None)
  pub vital_progress : IsTaken (codes "vital" ∷ codes "--progress" ∷ []) (vital_of false false true false None)
  pub vital_nodes : IsTaken (codes "vital" ∷ codes "--nodes" ∷ []) (vital_of true false false false None)
  pub vital_both : IsTaken (codes "vital" ∷ codes "--progress" ∷ codes "--nodes" ∷ []) (vital_of true false true false None)
  pub vital_second : IsTaken (codes "vital" ∷ codes "--second" ∷ []) (vital_of false false false true None)
  pub vital_worst : IsTaken (codes "vital" ∷ codes "--worst" ∷ codes "10" ∷ []) (vital_of false false false false (Some (codes "10")))
  pub vital_worst_nodes : IsTaken (codes "vital" ∷ codes "--nodes" ∷ codes "--worst" ∷ codes "0" ∷ []) (vital_of true false false false (Some (codes "0")))
  pub vital_worst_pairs : IsTaken (codes "vital" ∷ codes "--pairs" ∷ codes "--worst" ∷ codes "2" ∷ []) (vital_of false true false false (Some (codes "2")))
  pub no_path : HasFaults (MissingRequiredArgument ∷ []) (codes "session" ∷ []) × HasFaults (MissingRequiredArgument ∷ []) (codes "check" ∷ [])
  pub solve_path : (path : Text) → IsPlain path → HasFaults (UnknownArgument ∷ []) (codes "solve" ∷ path ∷ [])
  pub vital_path : (path : Text) → IsPlain path → HasFaults (UnknownArgument ∷ []) (codes "vital" ∷ path ∷ [])
  pub second_path : (path other : Text) → IsPlain path → IsPlain other → HasFaults (UnknownArgument ∷ []) (codes "check" ∷ path ∷ other ∷ [])
  pub misplaced_option : (rest : List Text) → AllByRecursion (HasFaults (UnknownArgument ∷ [])) (misplaced rest)
  pub strange_option : (word : Text) → AllByRecursion (HasFaults (UnknownArgument ∷ [])) (strange word)
  pub second_option : (word : Text) → AllByRecursion (HasFaults (ArgumentConflict ∷ [])) (repeated word)
  pub no_command : (word : Text) (rest : List Text) → IsNoCommand word → HasFaults (UnknownArgument ∷ InvalidSubcommand ∷ []) (word ∷ rest)
  pub help : (rest : List Text) → AllByRecursion (HasFaults (DisplayHelp ∷ [])) (helps rest)
  pub help_of : (rest : List Text) → HasFaults (DisplayHelp ∷ InvalidSubcommand ∷ []) (codes "help" ∷ rest)
  pub version : (rest : List Text) → HasFaults (DisplayVersion ∷ []) (codes "--version" ∷ rest)
