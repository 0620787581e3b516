-- What the reader of a solution text keeps of the network, and of the lines that it took.
-- Private: only contracts inside the crate and proofs use this.
use Rattle.std.specs.Prelude.{ℕ, ◌≡◌, ◌+◌, ◌^◌, ◌<◌, ◌≤◌, All, List, ◌++◌, length, false, Option, Some, None, is_some, slice_get, Result, Ok, Err, MatchResult}
use Rattle.std.specs.Option.{option_or, option_to_list}
use Rattle.dmf_state.specs.declared.arc.Arc.{Arc}
use Rattle.dmf_state.specs.declared.fault.FlowFault.{FlowFault}
use Rattle.dmf_state.specs.declared.fault.FlowFault.TheVariants as flow
use Rattle.dmf_text.specs.declared.fault.SolutionFaultKind.{SolutionFaultKind}
use Rattle.dmf_text.specs.declared.fault.SolutionFaultKind.TheVariants.{NoSuchPair, OverCapacity, NotConserved, ValueDiffers, NoMemory}
use Rattle.dmf_text.specs.declared.pairs.PairFlow.{PairFlow}
use Rattle.dmf_text.specs.declared.pairs.PairTable.{PairTable}
use Rattle.dmf_text.specs.declared.solution_reading.SolutionReading.{SolutionReading}
use Rattle.dmf_text.specs.Judging.{Line}
use Rattle.dmf_text.specs.PairOrder.{keeper_of}
use Rattle.dmf_text.specs.Solution.{NodePair, same_pair, has_pair, pair_capacity, pair_flow, Facts, value_in, flow_in}

-- the fault of a text whose flows the state refuses
abbrev pub flow_kind : FlowFault → SolutionFaultKind
flow_kind (flow.OverCapacity arc) = OverCapacity
flow_kind (flow.NotConserved node) = NotConserved node
flow_kind flow.Negative = ValueDiffers
flow_kind flow.NoMemory = NoMemory

-- what is known of a pair: the entry at the pair's keeper
abbrev pub known_of : PairTable → NodePair → Option PairFlow
known_of pairs pair = slice_get pairs.known.items (keeper_of pairs.ends.items pairs.numbers.items pair)

-- The number is the keeper of the pair, and this is the pair's entry.
pub record IsKnownAt (pairs : PairTable) (pair : NodePair) (found : ℕ × PairFlow) : Type 0 where
  pub keeper : found.0 ≡ keeper_of pairs.ends.items pairs.numbers.items pair
  pub within : found.0 < length pairs.known.items
  pub known : known_of pairs pair ≡ Some found.1

-- the capacity and the flow of a pair, 0 where nothing is known of it
abbrev pub cap_of : Option PairFlow → ℕ
cap_of None = 0
cap_of (Some known) = known.cap

abbrev pub flow_of : Option PairFlow → ℕ
flow_of None = 0
flow_of (Some known) = known.flow

-- The pairs of these arcs, and no others, have entries. Each has the sum of the capacities of its arcs that are counted, and its flow.
pub record KeepsCounted (arcs counted : List Arc) (flow : NodePair → ℕ) (pairs : PairTable) : Type 0 where
  pub there : (pair : NodePair) → is_some (known_of pairs pair) ≡ has_pair arcs pair
  pub caps : (pair : NodePair) → cap_of (known_of pairs pair) ≡ pair_capacity counted pair
  pub flows : (pair : NodePair) → flow_of (known_of pairs pair) ≡ flow pair

-- The pairs of these arcs, and no others, have entries, and all arcs are counted.
abbrev pub KeepsPairs : List Arc → (NodePair → ℕ) → PairTable → Type 0
KeepsPairs arcs flow pairs = KeepsCounted arcs arcs flow pairs

-- This is known of the pair now, and the other pairs have the entries that they had.
pub record Updates (old : PairTable) (pair : NodePair) (known : PairFlow) (new : PairTable) : Type 0 where
  pub here : known_of new pair ≡ Some known
  pub others : (other : NodePair) → same_pair pair other ≡ false → known_of new other ≡ known_of old other

-- The flow was added to the flow of its pair, whose capacities allow it.
pub record AddsFlow (old : PairTable) (pair : NodePair) (flow : ℕ) (new : PairTable) : Type 0 where
  pub known : PairFlow
  pub is_there : known_of old pair ≡ Some known
  pub fits : known.flow + flow ≤ known.cap
  pub updates : Updates old pair (record { cap = known.cap; flow = known.flow + flow }) new

-- why the flow was not added
abbrev pub CannotAdd : Option PairFlow → ℕ → SolutionFaultKind → Type 0
CannotAdd None flow kind = kind ≡ NoSuchPair
CannotAdd (Some known) flow kind = (known.cap < known.flow + flow) × (kind ≡ OverCapacity)

-- Both ends of the arc are below 2^32.
abbrev pub HasSmallEnds : Arc → Type 0
HasSmallEnds arc = (arc.tail < 2 ^ 32) × (arc.head < 2 ^ 32)

-- The reader has these facts, for a network with these arcs.
pub record Keeps (arcs : List Arc) (facts : Facts) (reading : SolutionReading) : Type 0 where
  pub ends : All HasSmallEnds arcs
  pub value : reading.value ≡ facts.value
  pub pairs : KeepsPairs arcs (pair_flow facts.flows) reading.pairs

-- what lines say, and one more line
abbrev pub with_line : Facts → Line → Facts
with_line facts line = record {
  value = option_or facts.value (value_in line);
  flows = facts.flows ++ option_to_list (flow_in line);
}

-- A reader with these facts took the line, whose judgement this is; or the call failed with the line's fault.
abbrev pub TakesSolutionLine : List Arc → Facts → Line → Result (Unit {0}) SolutionFaultKind → SolutionReading → Result (Unit {0}) SolutionFaultKind → Type 0
TakesSolutionLine arcs facts line judgement now outcome =
    MatchResult outcome (λ _. (judgement ≡ Ok tt) × Keeps arcs (with_line facts line) now) (λ kind. judgement ≡ Err kind)
