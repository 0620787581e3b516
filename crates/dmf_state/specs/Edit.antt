-- Edits: planned changes of a state, written down so that they can be applied to it.
-- Public: a public contract says no more than this.
use Rattle.std.specs.Prelude.{ℕ, ◌≡◌, ◌+◌, ◌-◌, ◌<◌, ◌==◌, if◌then◌else◌, List, [], ◌∷◌, map, slice_get, slice_set, Some, true, false, ⊤}
use Rattle.dmf_state.specs.declared.edit.Move.{Move}
use Rattle.dmf_state.specs.declared.edit.Shutting.{Shutting}
use Rattle.dmf_state.specs.declared.edit.Edit.{Edit}
use Rattle.dmf_state.specs.declared.edit.Edit.TheVariants.{Cap, Add, Close, Shut, Solve}
use Rattle.dmf_state.specs.Arc.{open_arc, with_cap, closed_arc}
use Rattle.dmf_state.specs.Network.{Network, arc_number, has_arc, with_arc}
use Rattle.dmf_state.specs.NetworkState.{NetworkState, IsState, with_flows, with_idle_arc}

-- the flows that an edit moves
abbrev pub moves_of : Edit → List Move
moves_of (Cap arc old new moves) = moves.items
moves_of (Close arc old moves) = moves.items
moves_of (Add tail head cap) = []
moves_of (Shut arcs moves) = moves.items
moves_of (Solve moves) = moves.items

-- the numbers of these arcs
abbrev pub numbers : List Shutting → List ℕ
numbers arcs = map (λ a. a.arc) arcs

-- the numbers of the arcs that an edit shuts
abbrev pub shut_arcs : Edit → List ℕ
shut_arcs (Shut arcs moves) = numbers arcs.items
shut_arcs edit = []

-- the flows after these moves: each arc that they name has the flow that they give it
abbrev pub moved : List Move → List ℕ → List ℕ
moved [] flows = flows
moved (m ∷ moves) flows = moved moves (slice_set flows (m.arc - 1) m.to)

-- the network with these arcs closed, one after the other
abbrev pub with_closed : List Shutting → Network → Network
with_closed [] n = n
with_closed (a ∷ arcs) n = with_closed arcs (with_arc n a.arc (closed_arc (arc_number n a.arc)))

-- the state that an edit makes of this one
abbrev pub applied : Edit → NetworkState → NetworkState
applied (Cap j old new moves) s =
    record {
      network = with_arc s.network j (with_cap new (arc_number s.network j));
      flows = moved moves.items s.flows;
    }
applied (Close j old moves) s =
    record {
      network = with_arc s.network j (closed_arc (arc_number s.network j));
      flows = moved moves.items s.flows;
    }
applied (Add tail head cap) s = with_idle_arc s (open_arc tail head cap)
applied (Shut arcs moves) s = record { network = with_closed arcs.items s.network; flows = moved moves.items s.flows }
applied (Solve moves) s = with_flows s (moved moves.items s.flows)

-- The edit adds an arc.
abbrev pub AddsArc : Edit → Type 0
AddsArc (Cap j old new moves) = ⊥
AddsArc (Close j old moves) = ⊥
AddsArc (Add tail head cap) = ⊤
AddsArc (Shut arcs moves) = ⊥
AddsArc (Solve moves) = ⊥

-- The moves name arcs past number `last`, in strictly ascending order, each with the flow that it has.
abbrev pub MovesFit : ℕ → List Move → List ℕ → Type 0
MovesFit last [] flows = Unit {0}
MovesFit last (m ∷ moves) flows =
    (last < m.arc) × (slice_get flows (m.arc - 1) ≡ Some m.from) × MovesFit m.arc moves flows

-- Arc number `j` is there, is open, and has this capacity.
pub record IsOpenWith (n : Network) (j cap : ℕ) : Type 0 where
  pub is_there : has_arc n j ≡ true
  pub is_open : (arc_number n j).closed ≡ false
  pub has_cap : (arc_number n j).cap ≡ cap

-- These are arcs past number `last`, in strictly ascending order, open and of these capacities.
abbrev pub AreOpenWith : ℕ → List Shutting → Network → Type 0
AreOpenWith last [] n = Unit {0}
AreOpenWith last (a ∷ arcs) n = (last < a.arc) × IsOpenWith n a.arc a.old × AreOpenWith a.arc arcs n

-- What the edit says about the arcs, apart from their flow, is true.
abbrev pub ArcFits : Edit → Network → Type 0
ArcFits (Cap j old new moves) n = IsOpenWith n j old
ArcFits (Close j old moves) n = IsOpenWith n j old
ArcFits (Add tail head cap) n = Unit {0}
ArcFits (Shut arcs moves) n = AreOpenWith 0 arcs.items n
ArcFits (Solve moves) n = Unit {0}

-- The edit fits the state: what it says about the state is true, and what it makes of the state is a state.
pub record Fits (edit : Edit) (s : NetworkState) : Type 0 where
  pub arc : ArcFits edit s.network
  pub moves : MovesFit 0 (moves_of edit) s.flows
  pub applied : IsState (applied edit s)

-- the moves of the arcs whose flow differs, ascending; the first arc of the lists has number `j`
abbrev pub differences : ℕ → List ℕ → List ℕ → List Move
differences j [] after = []
differences j (x ∷ before) [] = []
differences j (x ∷ before) (y ∷ after) =
    if x == y then differences (j + 1) before after
    else record { arc = j; from = x; to = y } ∷ differences (j + 1) before after

-- The edit's moves list just the arcs whose flow it changes.
abbrev pub ListsDifferences : Edit → NetworkState → Type 0
ListsDifferences edit s = moves_of edit ≡ differences 1 s.flows (applied edit s).flows
