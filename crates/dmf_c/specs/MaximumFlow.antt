-- What C gets of a maximum flow of a network: its value, the flows, and the smallest side.
-- Public: a public contract says no more than this.
use Rattle.std.specs.Prelude.{ℕ, ◌≡◌, ◌+◌, ◌<◌, ◌==◌, ◌&&◌, ◌⊎◌, List, length, slice_index, pos, if◌then◌else◌, MatchBool, Option, None, Some}
use Rattle.dmf_state.specs.Flow.{flow_value}
use Rattle.dmf_state.specs.Network.{Network}
use Rattle.dmf_state.specs.Side.{CutSide, has_node}
use Rattle.dmf_solver.specs.Greatest.{IsGreatest}
use Rattle.dmf_solver.specs.Optimal.{IsOptimal}
use Rattle.dmf_c.specs.Arrays.{MarksSide}
use Rattle.dmf_c.specs.Ranges.{is_column}
use Rattle.dmf_c.specs.Status.{DMF_OK, DMF_NO_MEMORY, DMF_BAD_LENGTH}

-- Some flow has this value, no flow of the network has a larger one, and the value is the capacity of a minimum cut, and so that of the
-- smallest side.
pub record IsOptimalValue (n : Network) (value : ℕ) : Type 0 where
  pub flows : List ℕ
  pub optimal : IsOptimal (record { network = n; flows = flows })
  pub value_is : pos value ≡ flow_value n flows

-- No flow of the network has a larger value than this one.
pub record IsMaximumFlow (n : Network) (value : ℕ) (flows : List ℕ) : Type 0 where
  pub greatest : IsGreatest n flows
  pub value_is : pos value ≡ flow_value n flows

-- The answer to a caller that asks for a maximum flow with arrays of these lengths for the flows and for the side: that one of them has neither a
-- place for each arc or node nor none at all; that all is written; or that memory was refused.
abbrev pub AnswersMaximumFlow : Network → ℕ → ℕ → ℕ → Type 0
AnswersMaximumFlow n flow_count side_count code =
    MatchBool (is_column (length n.arcs) flow_count && is_column n.nodes side_count)
    ((code ≡ DMF_OK) ⊎ (code ≡ DMF_NO_MEMORY)) (code ≡ DMF_BAD_LENGTH)

-- The array has a maximum flow of this value, if it has a place at all.
abbrev pub HasFlowsWanted : Network → ℕ → List ℕ → List ℕ → Type 0
HasFlowsWanted n value before after = MatchBool (length before == 0) (after ≡ before) (IsMaximumFlow n value after)

-- The array has the smallest side, if it has a place at all.
abbrev pub MarksSideWanted : Network → List ℕ → List ℕ → Type 0
MarksSideWanted n before after = MatchBool (length before == 0) (after ≡ before) (MarksSide n after)

-- The array keeps its length, and gets 1 for each node of the side, else 0; without a side it is as before.
abbrev pub MarksIfSome : Option CutSide → List ℕ → List ℕ → Type 0
MarksIfSome None before after = after ≡ before
MarksIfSome (Some side) before after =
    (length after ≡ length before) × ((k : ℕ) → k < length after → slice_index after k ≡ (if has_node side.ids (k + 1) then 1 else 0))
