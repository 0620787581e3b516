-- Solution texts, in the format of the First DIMACS Implementation Challenge (Problem Definitions and Specifications,
-- 1990, maximum flow): which line is at fault, and what a text stands for, given the network that its flows are on.
-- Public: a public contract says no more than this.
use Rattle.std.specs.Prelude.{ℕ, List, [], ◌∷◌, ◌++◌, ◌+◌, ◌-◌, ◌==◌, ◌&&◌, Bool, Option, Some, None, is_none, Result, Ok, Err, ok_or, if◌then◌else◌, length}
use Rattle.std.specs.Prelude.{map, codes, min, nat_eq, nat_le, pos, sum_by}
use Rattle.std.specs.List.{filter_map, list_any, starts_with}
use Rattle.std.specs.Ordering.{int_eq}
use Rattle.std.specs.Str.{bytes_eq}
use Rattle.std.specs.Str.Lines.{lines}
use Rattle.dmf_state.specs.declared.arc.Arc.{Arc}
use Rattle.dmf_state.specs.Flow.{flow_value}
use Rattle.dmf_state.specs.FlowFault.{first_unbalanced}
use Rattle.dmf_state.specs.NetworkState.{NetworkState, with_flows}
use Rattle.dmf_text.specs.declared.digits.NumberFault.{NumberFault}
use Rattle.dmf_text.specs.declared.digits.NumberFault.TheVariants as digits
use Rattle.dmf_text.specs.declared.fault.SolutionFault.{SolutionFault}
use Rattle.dmf_text.specs.declared.fault.SolutionFaultKind.{SolutionFaultKind}
use Rattle.dmf_text.specs.declared.fault.SolutionFaultKind.TheVariants.{UnknownLine, FieldCount, NotANumber, TooLarge, NoSuchPair, OverCapacity, SecondValue}
use Rattle.dmf_text.specs.declared.fault.SolutionFaultKind.TheVariants.{ValueMissing, NotConserved, ValueDiffers, NoMemory}
use Rattle.dmf_text.specs.Fields.{fields}
use Rattle.dmf_text.specs.Number.{number_of}
use Rattle.dmf_text.specs.Judging.{Line, field, number_at, first_fact, ◌>>=◌, ◌>>◌, expect, map_fault, outcome_after}

-- ---- pairs of nodes

-- A pair is two numbers: a tail and a head. Arcs of the same pair are parallel.
abbrev pub NodePair : Type 0
NodePair = ℕ × ℕ

abbrev pub same_pair : NodePair → NodePair → Bool
same_pair p q = nat_eq p.0 q.0 && nat_eq p.1 q.1

-- the pair of an arc
abbrev pub ends : Arc → NodePair
ends arc = (arc.tail, arc.head)

-- whether one of the arcs has the pair
abbrev pub has_pair : List Arc → NodePair → Bool
has_pair arcs pair = list_any (λ arc. same_pair (ends arc) pair) arcs

-- The sum of the capacities of the arcs of a pair. The capacity of a closed arc is 0.
abbrev pub pair_capacity : List Arc → NodePair → ℕ
pair_capacity arcs pair = sum_by (λ arc. if same_pair (ends arc) pair then arc.cap else 0) arcs

-- ---- what good lines say

-- `s VALUE`
abbrev pub value_in : Line → Option ℕ
value_in [] = None
value_in (kind ∷ behind) = if bytes_eq kind (codes "s") then Some (number_at 0 behind) else None

-- `f SRC DST FLOW`: the arcs of the pair carry this flow together
abbrev pub flow_in : Line → Option (NodePair × ℕ)
flow_in [] = None
flow_in (kind ∷ behind) =
    if bytes_eq kind (codes "f") then Some ((number_at 0 behind, number_at 1 behind), number_at 2 behind) else None

-- what lines say together
pub record Facts : Type 0 where
  pub value : Option ℕ
  pub flows : List (NodePair × ℕ)

abbrev pub facts_of : List Line → Facts
facts_of lines = record { value = first_fact value_in lines; flows = filter_map flow_in lines }

-- the sum of the flows that the lines give to a pair
abbrev pub pair_flow : List (NodePair × ℕ) → NodePair → ℕ
pair_flow flows pair = sum_by (λ flow. if same_pair flow.0 pair then flow.1 else 0) flows

-- ---- the judgement of a line, given the arcs of the network and what the lines before it say

-- why a field spells no number, as the fault of a line
abbrev pub number_fault : NumberFault → SolutionFaultKind
number_fault digits.NotANumber = NotANumber
number_fault digits.TooLarge = TooLarge

-- the number that field i spells
abbrev pub number_in : ℕ → List (List ℕ) → Result ℕ SolutionFaultKind
number_in i behind = map_fault number_fault (number_of (field i behind))

-- `s`, and after it `VALUE`
unfoldable pub judged_value : Facts → List (List ℕ) → Result (Unit {0}) SolutionFaultKind
judged_value facts behind = do
  expect (is_none facts.value) SecondValue
  expect (length behind == 1) FieldCount
  value ← number_in 0 behind
  Ok tt

-- the arcs of the pair carry this much more flow
abbrev pub flow_fits : List Arc → Facts → NodePair → ℕ → Result (Unit {0}) SolutionFaultKind
flow_fits arcs facts pair flow = do
  expect (has_pair arcs pair) NoSuchPair
  expect (nat_le (pair_flow facts.flows pair + flow) (pair_capacity arcs pair)) OverCapacity

-- `f`, and after it `SRC DST FLOW`
unfoldable pub judged_flow : List Arc → Facts → List (List ℕ) → Result (Unit {0}) SolutionFaultKind
judged_flow arcs facts behind = do
  expect (length behind == 3) FieldCount
  tail ← number_in 0 behind
  head ← number_in 1 behind
  flow ← number_in 2 behind
  flow_fits arcs facts (tail, head) flow

-- A line of any kind. A line without fields is blank, and a line whose first field begins with `c` is a comment; neither has a fault.
abbrev pub judged : List Arc → Facts → Line → Result (Unit {0}) SolutionFaultKind
judged arcs facts [] = Ok tt
judged arcs facts (kind ∷ behind) =
    if bytes_eq kind (codes "f") then judged_flow arcs facts behind
    else if bytes_eq kind (codes "s") then judged_value facts behind
    else if starts_with nat_eq kind (codes "c") then Ok tt
    else Err UnknownLine

-- ---- what a text stands for

-- The flows on arcs that come after others in the network. An arc takes of the flow of its pair as much as its capacity allows of what
-- the arcs of the pair before it have left. If their capacities together exceed that flow, nothing is left: a difference of natural
-- numbers is then 0.
abbrev pub put_behind : List (NodePair × ℕ) → List Arc → List Arc → List ℕ
put_behind flows before [] = []
put_behind flows before (arc ∷ more) =
    min arc.cap (pair_flow flows (ends arc) - pair_capacity before (ends arc)) ∷ put_behind flows (before ++ arc ∷ []) more

-- the flows on the arcs of a network
abbrev pub put_on : List (NodePair × ℕ) → List Arc → List ℕ
put_on flows arcs = put_behind flows [] arcs

-- the flow is conserved: no node is unbalanced
abbrev pub expect_none : Option ℕ → Result (Unit {0}) SolutionFaultKind
expect_none None = Ok tt
expect_none (Some node) = Err (NotConserved node)

-- the end of a text, given what its lines say
unfoldable pub ended : NetworkState → Facts → Result NetworkState SolutionFaultKind
ended s facts = do
  value ← ok_or facts.value ValueMissing
  expect_none (first_unbalanced s.network (put_on facts.flows s.network.arcs))
  expect (int_eq (flow_value s.network (put_on facts.flows s.network.arcs)) (pos value)) ValueDiffers
  Ok (with_flows s (put_on facts.flows s.network.arcs))

-- a fault of the line with this number
abbrev pub solution_fault : ℕ → SolutionFaultKind → SolutionFault
solution_fault number kind = record { line = number; kind = kind }

-- what a solution text stands for, where this state has the network: the same network with the flows of the text
abbrev pub solution_of : NetworkState → List ℕ → Result NetworkState SolutionFault
solution_of s text =
    outcome_after facts_of (judged s.network.arcs) (ended s) solution_fault [] (map fields (lines text))

-- the fault where memory was refused, whose line is 0
abbrev pub solution_out_of_memory : SolutionFault
solution_out_of_memory = record { line = 0; kind = NoMemory }
