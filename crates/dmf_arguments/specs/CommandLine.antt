-- The program's command line, as the program describes it to clap: its commands, their options and paths. What clap's definition of a
-- parse makes of words on it.
-- Public: the contracts of the public calls cite it.
use Rattle.std.specs.Prelude.{◌≡◌, List, [], ◌∷◌, Option, Some, codes, false, true, pos, option_map}
use Rattle.clap.specs.Words.{App, Kinds, Row, Rule, Text, app_of, fault_of, first_of, new_app, new_rule, one_of, rule_of, subcommand_of, with_rule}
use Rattle.clap.specs.Words.{with_subcommand}
use Rattle.clap.specs.Simple.{on_top}
use Rattle.clap.specs.declared.builder.value_parser.ValueParser.TheVariants.{Signed}
use Rattle.clap.specs.declared.builder.action.ArgAction.TheVariants.{SetTrue}
use Rattle.clap.specs.declared.builder.arg.Arg.{Arg}
use Rattle.clap.specs.declared.builder.command.Command.{Command}
use Rattle.clap.specs.declared.builder.command.Command.TheViews.{out-Command as fields_of}

-- An option without a value, which is there or not.
abbrev pub flag_rule : Text → Rule
flag_rule name = record (new_rule name) { long = Some name; action = Some SetTrue }

-- `--history N`, with N from 0 to 1,000,000; the default is 1,000,000
abbrev pub history_rule : Rule
history_rule =
    record (new_rule (codes "history")) {
      long = Some (codes "history");
      value_names = 1;
      defaults = codes "1000000" ∷ [];
      parser = Some (Signed (pos 0) (pos 1000000));
    }

-- `--worst N`, with N from 0 to 10,000
abbrev pub worst_rule : Rule
worst_rule =
    record (new_rule (codes "worst")) { long = Some (codes "worst"); value_names = 1; parser = Some (Signed (pos 0) (pos 10000)) }

-- the path of the problem's file, which is required
abbrev pub problem_rule : Rule
problem_rule = record (new_rule (codes "problem")) { value_names = 1; required = true }

abbrev pub solve_line : App
solve_line =
    with_rule (with_rule (with_rule (with_rule (new_app (codes "solve")) (flag_rule (codes "any"))) (flag_rule (codes "brief")))
    (flag_rule (codes "cut"))) (flag_rule (codes "progress"))

abbrev pub session_line : App
session_line =
    with_rule (with_rule (with_rule (with_rule (with_rule (new_app (codes "session")) (flag_rule (codes "brief"))) (flag_rule (codes "cut")))
    history_rule) (flag_rule (codes "progress"))) problem_rule

abbrev pub check_line : App
check_line = with_rule (new_app (codes "check")) problem_rule

abbrev pub vital_line : App
vital_line =
    with_rule (with_rule (with_rule (with_rule (with_rule (new_app (codes "vital")) (flag_rule (codes "nodes"))) (flag_rule (codes "pairs")))
    (flag_rule (codes "progress"))) (flag_rule (codes "second"))) worst_rule

-- the program itself, which has a version
abbrev pub program_line : App
program_line = on_top (λ line. record line { has_version = true }) (new_app (codes "dmf"))

abbrev pub arguments : App
arguments =
    with_subcommand (with_subcommand (with_subcommand (with_subcommand program_line solve_line.top) session_line.top) check_line.top) vital_line.top

-- The argument has this rule, and belongs to its command alone.
abbrev pub IsRule : Rule → Arg → Type 0
IsRule rule arg = (rule_of arg ≡ rule) × (arg.global ≡ false)

-- The command is this one, and shares no argument with another.
abbrev pub IsCommandLine : App → Command → Type 0
IsCommandLine line made = (app_of made ≡ line) × ((fields_of made).has_globals ≡ false)

-- the command that a parse finds, with the texts of its seven flags, of its two numbers and of its path, where it has them
pub record Asked : Type 0 where
  pub command : Text
  pub cut : Option Text
  pub brief : Option Text
  pub any : Option Text
  pub nodes : Option Text
  pub pairs : Option Text
  pub progress : Option Text
  pub second : Option Text
  pub history : Option Text
  pub worst : Option Text
  pub problem : Option Text

abbrev pub asked_of : Option (Text × List Row) → Option Asked
asked_of = option_map (λ found. record {
  command = found.0;
  cut = one_of (codes "cut") found.1;
  brief = one_of (codes "brief") found.1;
  any = one_of (codes "any") found.1;
  nodes = one_of (codes "nodes") found.1;
  pairs = one_of (codes "pairs") found.1;
  progress = one_of (codes "progress") found.1;
  second = one_of (codes "second") found.1;
  history = one_of (codes "history") found.1;
  worst = one_of (codes "worst") found.1;
  problem = first_of (codes "problem") found.1;
})

-- what a parse finds in these words, of which the first is the program's name
abbrev pub asked_in : List Text → Option Asked
asked_in words = asked_of (subcommand_of arguments words)

-- the kinds of fault that a parse may find in these words: help and the version count as faults too
abbrev pub faults_in : List Text → Kinds
faults_in words = fault_of arguments words
