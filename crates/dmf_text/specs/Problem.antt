-- Problem texts, in the format of the First DIMACS Implementation Challenge (Problem Definitions and Specifications,
-- 1990, maximum flow): which line is at fault, and what a text stands for.
-- Public: a public contract says no more than this.
use Rattle.std.specs.Prelude.{ℕ, List, [], ◌∷◌, ◌+◌, ◌^◌, ◌==◌, ◌&&◌, ◌||◌, Bool, true, not, Option, Some, None, is_some, is_none, unwrap_or, Result, Ok, Err}
use Rattle.std.specs.Prelude.{if◌then◌else◌, length, replicate, map, codes, nat_eq, nat_lt, nat_le}
use Rattle.std.specs.Option.{option_map}
use Rattle.std.specs.List.{filter_map, starts_with}
use Rattle.std.specs.Str.{bytes_eq}
use Rattle.std.specs.Str.Lines.{lines}
use Rattle.dmf_state.specs.declared.arc.Arc.{Arc}
use Rattle.dmf_node.specs.Node.{is_node}
use Rattle.dmf_state.specs.Arc.{open_arc, capacity_sum}
use Rattle.dmf_state.specs.NetworkState.{NetworkState}
use Rattle.dmf_text.specs.declared.digits.NumberFault.{NumberFault}
use Rattle.dmf_text.specs.declared.digits.NumberFault.TheVariants as digits
use Rattle.dmf_text.specs.declared.fault.ProblemFault.{ProblemFault}
use Rattle.dmf_text.specs.declared.fault.ProblemFaultKind.{ProblemFaultKind}
use Rattle.dmf_text.specs.declared.fault.ProblemFaultKind.TheVariants.{ProblemLineExpected, SecondProblemLine, UnknownLine, NotMax, FieldCount, NotANumber}
use Rattle.dmf_text.specs.declared.fault.ProblemFaultKind.TheVariants.{TooLarge, CountOutOfRange, NodeOutOfRange, NotSourceOrSink, SecondTerminal}
use Rattle.dmf_text.specs.declared.fault.ProblemFaultKind.TheVariants.{SameTerminals, ArcBeforeTerminals, TooManyArcs, TooFewArcs, TerminalMissing, SumTooLarge}
use Rattle.dmf_text.specs.declared.fault.ProblemFaultKind.TheVariants.{NoMemory}
use Rattle.dmf_text.specs.Fields.{fields}
use Rattle.dmf_text.specs.Number.{number_of}
use Rattle.dmf_text.specs.Judging.{Line, field, number_at, first_fact, ◌>>=◌, ◌>>◌, expect, map_fault, outcome_after}

-- ---- what good lines say

-- NODES and ARCS
pub record Counts : Type 0 where
  pub nodes : ℕ
  pub arcs : ℕ

-- `p max NODES ARCS`
abbrev pub counts_in : Line → Option Counts
counts_in [] = None
counts_in (kind ∷ behind) =
    if bytes_eq kind (codes "p") then Some (record { nodes = number_at 1 behind; arcs = number_at 2 behind }) else None

-- `n ID LETTER`, for this letter
abbrev pub terminal_in : List ℕ → Line → Option ℕ
terminal_in letter [] = None
terminal_in letter (kind ∷ behind) =
    if bytes_eq kind (codes "n") && bytes_eq (field 1 behind) letter then Some (number_at 0 behind) else None

-- `a SRC DST CAP`
abbrev pub arc_in : Line → Option Arc
arc_in [] = None
arc_in (kind ∷ behind) =
    if bytes_eq kind (codes "a") then Some (open_arc (number_at 0 behind) (number_at 1 behind) (number_at 2 behind)) else None

-- what lines say together
pub record Facts : Type 0 where
  pub counts : Option Counts
  pub source : Option ℕ
  pub sink : Option ℕ
  pub arcs : List Arc

abbrev pub facts_of : List Line → Facts
facts_of lines = record {
  counts = first_fact counts_in lines;
  source = first_fact (terminal_in (codes "s")) lines;
  sink = first_fact (terminal_in (codes "t")) lines;
  arcs = filter_map arc_in lines;
}

-- NODES and ARCS, or 0 if no line says them
abbrev pub node_count : Facts → ℕ
node_count facts = unwrap_or (option_map (λ counts. counts.nodes) facts.counts) 0

abbrev pub arc_count : Facts → ℕ
arc_count facts = unwrap_or (option_map (λ counts. counts.arcs) facts.counts) 0

-- ---- the judgement of a line, given what the lines before it say

-- why a field spells no number, as the fault of a line
abbrev pub number_fault : NumberFault → ProblemFaultKind
number_fault digits.NotANumber = NotANumber
number_fault digits.TooLarge = TooLarge

-- the number that field i spells
abbrev pub number_in : ℕ → List (List ℕ) → Result ℕ ProblemFaultKind
number_in i behind = map_fault number_fault (number_of (field i behind))

-- `max NODES ARCS`
unfoldable pub counts_named : List (List ℕ) → Result Counts ProblemFaultKind
counts_named behind = do
  expect (length behind == 3) FieldCount
  expect (bytes_eq (field 0 behind) (codes "max")) NotMax
  nodes ← number_in 1 behind
  arcs ← number_in 2 behind
  expect (nat_le 2 nodes && nat_le nodes (2 ^ 24)) CountOutOfRange
  expect (nat_le arcs (2 ^ 27)) CountOutOfRange
  Ok (record { nodes = nodes; arcs = arcs })

-- `p`, and after it `max NODES ARCS`
unfoldable pub judged_problem : Facts → List (List ℕ) → Result (Unit {0}) ProblemFaultKind
judged_problem facts behind = do
  expect (is_none facts.counts) SecondProblemLine
  counts ← counts_named behind
  Ok tt

-- `ID s` or `ID t`, where ID is a node of so many
unfoldable pub node_named : ℕ → List (List ℕ) → Result ℕ ProblemFaultKind
node_named nodes behind = do
  expect (length behind == 2) FieldCount
  node ← number_in 0 behind
  expect (bytes_eq (field 1 behind) (codes "s") || bytes_eq (field 1 behind) (codes "t")) NotSourceOrSink
  expect (is_node nodes node) NodeOutOfRange
  Ok node

-- of the two terminals, the one of this letter, and the other one
abbrev pub own : List ℕ → Facts → Option ℕ
own letter facts = if bytes_eq letter (codes "s") then facts.source else facts.sink

abbrev pub other : List ℕ → Facts → Option ℕ
other letter facts = if bytes_eq letter (codes "s") then facts.sink else facts.source

-- the node is not this terminal
abbrev pub differs : ℕ → Option ℕ → Bool
differs node None = true
differs node (Some terminal) = not (node == terminal)

-- `n`, and after it `ID s` or `ID t`
unfoldable pub judged_node : Facts → List (List ℕ) → Result (Unit {0}) ProblemFaultKind
judged_node facts behind = do
  expect (is_some facts.counts) ProblemLineExpected
  node ← node_named (node_count facts) behind
  expect (is_none (own (field 1 behind) facts)) SecondTerminal
  expect (differs node (other (field 1 behind) facts)) SameTerminals

-- `a`, and after it `SRC DST CAP`
unfoldable pub judged_arc : Facts → List (List ℕ) → Result (Unit {0}) ProblemFaultKind
judged_arc facts behind = do
  expect (is_some facts.counts) ProblemLineExpected
  expect (is_some facts.source && is_some facts.sink) ArcBeforeTerminals
  expect (nat_lt (length facts.arcs) (arc_count facts)) TooManyArcs
  expect (length behind == 3) FieldCount
  tail ← number_in 0 behind
  head ← number_in 1 behind
  cap ← number_in 2 behind
  expect (is_node (node_count facts) tail) NodeOutOfRange
  expect (is_node (node_count facts) head) NodeOutOfRange
  expect (nat_lt (capacity_sum facts.arcs + cap) (2 ^ 64)) SumTooLarge

-- A line of any kind. A line without fields is blank, and a line whose first field begins with `c` is a comment; neither has a fault.
abbrev pub judged : Facts → Line → Result (Unit {0}) ProblemFaultKind
judged facts [] = Ok tt
judged facts (kind ∷ behind) =
    if bytes_eq kind (codes "a") then judged_arc facts behind
    else if bytes_eq kind (codes "n") then judged_node facts behind
    else if bytes_eq kind (codes "p") then judged_problem facts behind
    else if starts_with nat_eq kind (codes "c") then Ok tt
    else Err UnknownLine

-- ---- what a text stands for

-- the network that the lines say, without flow
abbrev pub state_of : Facts → NetworkState
state_of facts = record {
  network = record {
    nodes = node_count facts;
    source = unwrap_or facts.source 0;
    sink = unwrap_or facts.sink 0;
    arcs = facts.arcs;
  };
  flows = replicate (length facts.arcs) 0;
}

-- the end of a text, given what its lines say
unfoldable pub ended : Facts → Result NetworkState ProblemFaultKind
ended facts = do
  expect (is_some facts.counts) ProblemLineExpected
  expect (is_some facts.source && is_some facts.sink) TerminalMissing
  expect (nat_le (arc_count facts) (length facts.arcs)) TooFewArcs
  Ok (state_of facts)

-- a fault of the line with this number
abbrev pub problem_fault : ℕ → ProblemFaultKind → ProblemFault
problem_fault number kind = record { line = number; kind = kind }

-- what a problem text stands for: `before` are its first lines, each good, and these are the others
abbrev pub problem_after : List Line → List Line → Result NetworkState ProblemFault
problem_after before more = outcome_after facts_of judged ended problem_fault before more

-- what a problem text stands for
abbrev pub problem_of : List ℕ → Result NetworkState ProblemFault
problem_of text = problem_after [] (map fields (lines text))

-- the fault where memory was refused, whose line is 0
abbrev pub out_of_memory : ProblemFault
out_of_memory = record { line = 0; kind = NoMemory }
