-- Why numbers on the arcs of a network are no flow, or a flow of negative value: the first fault that they have.
-- Public: a public contract says no more than this.
use Rattle.std.specs.Prelude.{ℕ, ◌-◌, ◌==◌, ◌&&◌, if◌then◌else◌, not, Bool, List, length, slice_index_or, Option, Some, None, nat_lt, int_lt, pos}
use Rattle.std.specs.List.{find, range_with_len}
use Rattle.std.specs.Option.{option_map, option_or}
use Rattle.dmf_state.specs.declared.arc.Arc.{Arc}
use Rattle.dmf_state.specs.declared.fault.FlowFault.{FlowFault}
use Rattle.dmf_state.specs.declared.fault.FlowFault.TheVariants.{OverCapacity, NotConserved, Negative}
use Rattle.dmf_state.specs.Arc.{no_arc}
use Rattle.dmf_state.specs.Network.{Network}
use Rattle.dmf_state.specs.Flow.{flow_on, outflow, inflow, flow_value}

-- whether the flow on arc number `j` exceeds its capacity
abbrev pub is_over_capacity : List Arc → List ℕ → ℕ → Bool
is_over_capacity arcs flows j = nat_lt (slice_index_or arcs (j - 1) no_arc).cap (flow_on flows j)

-- the first such arc
abbrev pub first_over_capacity : List Arc → List ℕ → Option ℕ
first_over_capacity arcs flows = find (is_over_capacity arcs flows) (range_with_len 1 (length arcs))

-- whether outflow and inflow differ at node `v`, which is neither the source nor the sink
abbrev pub is_unbalanced : Network → List ℕ → ℕ → Bool
is_unbalanced n flows v =
    (not (v == n.source) && not (v == n.sink)) && not (outflow n.arcs flows v == inflow n.arcs flows v)

-- the least such node
abbrev pub first_unbalanced : Network → List ℕ → Option ℕ
first_unbalanced n flows = find (is_unbalanced n flows) (range_with_len 1 n.nodes)

-- a negative value
abbrev pub value_fault : Network → List ℕ → Option FlowFault
value_fault n flows = if int_lt (flow_value n flows) (pos 0) then Some Negative else None

-- the first fault, if there is one
abbrev pub flow_fault : Network → List ℕ → Option FlowFault
flow_fault n flows =
    option_or (option_map OverCapacity (first_over_capacity n.arcs flows))
    (option_or (option_map NotConserved (first_unbalanced n flows)) (value_fault n flows))
