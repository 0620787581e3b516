-- Arrays of C's: those that a call fills, and numbers that it judges.
-- Public: a public contract says no more than this.
use Rattle.std.specs.Prelude.{ℕ, ◌≡◌, ◌-◌, ◌<◌, ◌≤◌, ◌⊎◌, List, length, slice_index, slice_index_or, nat_eq, if◌then◌else◌, MatchBool, MatchOption}
use Rattle.dmf_node.specs.Node.{IsNode}
use Rattle.dmf_state.specs.declared.fault.FlowFault.{FlowFault}
use Rattle.dmf_state.specs.declared.fault.FlowFault.TheVariants as flow
use Rattle.dmf_state.specs.FlowFault.{flow_fault}
use Rattle.dmf_state.specs.declared.arc.Arc.{Arc}
use Rattle.dmf_state.specs.Arc.{no_arc}
use Rattle.dmf_state.specs.Cut.{IsInEveryMinimumCut}
use Rattle.dmf_state.specs.Network.{Network}
use Rattle.dmf_state.specs.NetworkState.{NetworkState}
use Rattle.dmf_solver.specs.Greatest.{IsGreatest, IsSurpassed}
use Rattle.dmf_solver.specs.Optimal.{IsOptimal}
use Rattle.dmf_c.specs.Status.{DMF_OK, DMF_NO_MEMORY, DMF_NOT_GREATEST, DMF_BAD_LENGTH, DMF_OVER_CAPACITY, DMF_NOT_CONSERVED, DMF_NEGATIVE}

-- An array that keeps its length, gets a number of each item of the list, in order from index 0 on, as many as it has places for, and is otherwise as
-- before. `none` is what is read past the end of the list.
pub record BeginsWith {A : Type 0} (number : A → ℕ) (none : A) (items : List A) (before after : List ℕ) : Type 0 where
  pub size : length after ≡ length before
  pub first : (k : ℕ) → k < length items → k < length after → slice_index after k ≡ number (slice_index_or items k none)
  pub others : (k : ℕ) → length items ≤ k → k < length after → slice_index after k ≡ slice_index before k

-- the answer about an array of this length, which should have that one
abbrev pub length_code : ℕ → ℕ → ℕ
length_code given wanted = if nat_eq given wanted then DMF_OK else DMF_BAD_LENGTH

-- The array has the capacity of each arc: that of arc `k + 1` is at index `k`.
pub record AreCapacities (arcs : List Arc) (values : List ℕ) : Type 0 where
  pub size : length values ≡ length arcs
  pub each : (k : ℕ) → k < length arcs → slice_index values k ≡ (slice_index_or arcs k no_arc).cap

-- The array has the smallest side: at index `v - 1` it has 1 if every minimum cut has node `v` on the source's side, else 0.
pub record MarksSide (n : Network) (marks : List ℕ) : Type 0 where
  pub size : length marks ≡ n.nodes
  pub inside : (v : ℕ) → IsNode n.nodes v → IsInEveryMinimumCut n v → slice_index marks (v - 1) ≡ 1
  pub outside : (v : ℕ) → IsNode n.nodes v → ¬ IsInEveryMinimumCut n v → slice_index marks (v - 1) ≡ 0

-- The answer to a caller that asks for the side, if the array has its length: that no flow has a larger value, and that the capacities of the arcs
-- which leave the side add up to it; that some flow has a larger value; or that memory was refused.
abbrev pub TellsSide : NetworkState → ℕ → Type 0
TellsSide s code =
    ((code ≡ DMF_OK) × IsOptimal s) ⊎ ((code ≡ DMF_NOT_GREATEST) × IsSurpassed s.network s.flows) ⊎ (code ≡ DMF_NO_MEMORY)

-- The answer to a caller that asks for the side with an array of this length.
abbrev pub AnswersSide : NetworkState → ℕ → ℕ → Type 0
AnswersSide s given code = MatchBool (nat_eq given s.network.nodes) (TellsSide s code) (code ≡ DMF_BAD_LENGTH)

-- a fault's number, and the arc or the node that it names, or 0
abbrev pub flow_code : FlowFault → ℕ
flow_code flow.NoMemory = DMF_NO_MEMORY
flow_code (flow.OverCapacity arc) = DMF_OVER_CAPACITY
flow_code (flow.NotConserved node) = DMF_NOT_CONSERVED
flow_code flow.Negative = DMF_NEGATIVE

abbrev pub flow_place : FlowFault → ℕ
flow_place flow.NoMemory = 0
flow_place (flow.OverCapacity arc) = arc
flow_place (flow.NotConserved node) = node
flow_place flow.Negative = 0

-- these numbers are a flow, and no flow has a larger value, or some flow has
abbrev pub TellsGreatest : NetworkState → List ℕ → ℕ → Type 0
TellsGreatest s flows code =
    ((code ≡ DMF_OK) × IsGreatest s.network flows) ⊎ ((code ≡ DMF_NOT_GREATEST) × IsSurpassed s.network flows)

-- The answer about these numbers, one for each arc: their first fault, or whether some flow has a larger value.
abbrev pub JudgesFlow : NetworkState → List ℕ → ℕ → ℕ → Type 0
JudgesFlow s flows code place =
    MatchOption (flow_fault s.network flows) (TellsGreatest s flows code × (place ≡ 0))
    (λ fault. (code ≡ flow_code fault) × (place ≡ flow_place fault))

-- The answer about these numbers: that they are too few or too many, that memory was refused, or what they are. The place is 0 where
-- no arc and no node is at fault.
abbrev pub Judges : NetworkState → List ℕ → ℕ → ℕ → Type 0
Judges s flows code place =
    MatchBool (nat_eq (length flows) (length s.network.arcs))
    (((code ≡ DMF_NO_MEMORY) × (place ≡ 0)) ⊎ JudgesFlow s flows code place)
    ((code ≡ DMF_BAD_LENGTH) × (place ≡ 0))
