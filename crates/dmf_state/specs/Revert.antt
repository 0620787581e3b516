-- Reverting edits: the state before an edit.
-- Public: a public contract says no more than this.
use Rattle.std.specs.Prelude.{ℕ, ◌≡◌, ◌-◌, List, [], ◌∷◌, length, take, map}
use Rattle.dmf_state.specs.declared.edit.Move.{Move}
use Rattle.dmf_state.specs.declared.edit.Shutting.{Shutting}
use Rattle.dmf_state.specs.declared.edit.Edit.{Edit}
use Rattle.dmf_state.specs.declared.edit.Edit.TheVariants.{Cap, Add, Close, Shut, Solve}
use Rattle.dmf_state.specs.Arc.{open_arc}
use Rattle.dmf_state.specs.Network.{Network, arc_number, with_arc}
use Rattle.dmf_state.specs.NetworkState.{NetworkState, IsState, with_flows}
use Rattle.dmf_state.specs.Edit.{moved, applied, Fits}

-- the move that reverts this one
abbrev pub opposite : Move → Move
opposite m = record { arc = m.arc; from = m.to; to = m.from }

-- the flows before these moves: each arc that they name has the flow that it had
abbrev pub moved_back : List Move → List ℕ → List ℕ
moved_back moves flows = moved (map opposite moves) flows

-- the network with arc number `j` open and of this capacity
abbrev pub with_open : Network → ℕ → ℕ → Network
with_open n j cap = with_arc n j (open_arc (arc_number n j).tail (arc_number n j).head cap)

-- the network with these arcs open, each with its old capacity
abbrev pub with_opened : List Shutting → Network → Network
with_opened [] n = n
with_opened (a ∷ arcs) n = with_opened arcs (with_open n a.arc a.old)

-- the network without its last arc
abbrev pub without_last_arc : Network → Network
without_last_arc n =
    record { nodes = n.nodes; source = n.source; sink = n.sink; arcs = take (length n.arcs - 1) n.arcs }

-- the state without its last arc
abbrev pub without_last : NetworkState → NetworkState
without_last s = record { network = without_last_arc s.network; flows = take (length s.flows - 1) s.flows }

-- The state before an edit: the arcs that it names are open and have their old capacities, the flows are those before its moves, and
-- the arc that it added is gone.
abbrev pub reverted : Edit → NetworkState → NetworkState
reverted (Cap j old new moves) s = record { network = with_open s.network j old; flows = moved_back moves.items s.flows }
reverted (Close j old moves) s = record { network = with_open s.network j old; flows = moved_back moves.items s.flows }
reverted (Add tail head cap) s = without_last s
reverted (Shut arcs moves) s = record { network = with_opened arcs.items s.network; flows = moved_back moves.items s.flows }
reverted (Solve moves) s = with_flows s (moved_back moves.items s.flows)

-- The edit stands in the state: it made this state of one that it fits.
pub record Stands (edit : Edit) (t : NetworkState) : Type 0 where
  pub before : NetworkState
  pub state : IsState before
  pub fits : Fits edit before
  pub gives : applied edit before ≡ t
