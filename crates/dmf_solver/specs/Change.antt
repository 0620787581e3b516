-- The changes that a user may ask for: which are refused, and what the others make of a state.
-- Public: a public contract says no more than this.
use Rattle.std.specs.Prelude.{ℕ, ◌≡◌, ◌^◌, if◌then◌else◌, List, [], ◌∷◌, nat_lt, Option, Some, None, is_none, option_map, ⊤}
use Rattle.dmf_state.specs.declared.edit.Edit.{Edit}
use Rattle.dmf_state.specs.declared.edit.Edit.TheVariants as edit
use Rattle.dmf_state.specs.declared.fault.ArcFault.{ArcFault}
use Rattle.dmf_state.specs.declared.fault.ArcFault.TheVariants.{NoSuchNode, TooManyArcs, SumTooLarge}
use Rattle.dmf_solver.specs.declared.fault.PlanFault.{PlanFault}
use Rattle.dmf_solver.specs.declared.fault.PlanFault.TheVariants as plan
use Rattle.dmf_node.specs.Node.{is_node}
use Rattle.dmf_state.specs.Arc.{open_arc, with_cap, closed_arc, open_arcs_at}
use Rattle.dmf_state.specs.ArcFault.{arc_fault}
use Rattle.dmf_state.specs.Network.{Network, arc_number, has_arc, with_arc, sum_with}
use Rattle.dmf_state.specs.NetworkState.{NetworkState, with_idle_arc}
use Rattle.dmf_solver.specs.Solve.{Solves}
use Rattle.dmf_solver.specs.Drain.{Drains}

-- a change, as it is asked for
pub data Change : Type 0 where
  -- a new capacity for an arc
  Cap : (arc cap : ℕ) → Change
  -- a new arc, from a tail to a head, of a capacity
  Add : (tail head cap : ℕ) → Change
  -- closing an arc, which carries no flow any more
  Close : (arc : ℕ) → Change
  -- closing all arcs at a node
  Shut : (node : ℕ) → Change
  -- the maximum flow that augmenting reaches from the present one
  Solve : Change

-- why the network cannot take an arc, as a fault of a plan
abbrev pub plan_fault : ArcFault → PlanFault
plan_fault NoSuchNode = plan.NoSuchNode
plan_fault TooManyArcs = plan.TooManyArcs
plan_fault SumTooLarge = plan.SumTooLarge

-- why arc number `j` cannot be changed, if it cannot
abbrev pub arc_refusal : Network → ℕ → Option PlanFault
arc_refusal n j =
    if has_arc n j then (if (arc_number n j).closed then Some plan.Closed else None) else Some plan.NoSuchArc

-- why the change is refused, if it is
abbrev pub change_fault : NetworkState → Change → Option PlanFault
change_fault s (Cap j cap) =
    if is_none (arc_refusal s.network j) then
    (if nat_lt (sum_with s.network j cap) (2 ^ 64) then None else Some plan.SumTooLarge)
    else arc_refusal s.network j
change_fault s (Close j) = arc_refusal s.network j
change_fault s (Add tail head cap) = option_map plan_fault (arc_fault s.network tail head cap)
change_fault s (Shut v) = if is_node s.network.nodes v then None else Some plan.NoSuchNode
change_fault s Solve = None

-- Closing arc number `j` makes `s` into `t`.
abbrev pub ClosesArc : NetworkState → ℕ → NetworkState → Type 0
ClosesArc s j t =
    (t.network ≡ with_arc s.network j (closed_arc (arc_number s.network j))) × Drains s.network j 0 s.flows t.flows

-- Closing the arcs of these numbers in turn makes `s` into `t`.
abbrev pub Closes : List ℕ → NetworkState → NetworkState → Type 0
Closes [] s t = s ≡ t
Closes (j ∷ js) s t = (u : NetworkState) × ClosesArc s j u × Closes js u t

-- what an accepted change makes of a state
abbrev pub Becomes : NetworkState → Change → NetworkState → Type 0
Becomes s (Cap j cap) t =
    (t.network ≡ with_arc s.network j (with_cap cap (arc_number s.network j))) × Drains s.network j cap s.flows t.flows
Becomes s (Close j) t = ClosesArc s j t
Becomes s (Add tail head cap) t = t ≡ with_idle_arc s (open_arc tail head cap)
Becomes s (Shut v) t = Closes (open_arcs_at v 1 s.network.arcs) s t
Becomes s Solve t = (t.network ≡ s.network) × Solves s.network s.flows t.flows

-- The edit is one of this change: of the same kind, for the same arc, ends and capacity. `Fits` fixes the old capacities in it,
-- `ListsDifferences` its moves, and `shut_arcs` the arcs that it shuts.
abbrev pub IsEditOf : Change → Edit → Type 0
IsEditOf (Cap j cap) (edit.Cap arc old new moves) = (arc ≡ j) × (new ≡ cap)
IsEditOf (Close j) (edit.Close arc old moves) = arc ≡ j
IsEditOf (Add tail head cap) (edit.Add from to capacity) = (from ≡ tail) × (to ≡ head) × (capacity ≡ cap)
IsEditOf (Shut v) (edit.Shut arcs moves) = ⊤
IsEditOf Solve (edit.Solve moves) = ⊤
IsEditOf change other = ⊥
