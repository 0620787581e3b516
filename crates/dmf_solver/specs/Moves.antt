-- The moves that drain an arc.
-- Private: only contracts inside the crate and proofs use this.
use Rattle.std.specs.Prelude.{ℕ, ◌≡◌, ◌≢◌, ◌+◌, ◌-◌, ◌≤◌, true, false, List, [], ◌∷◌, length, slice_index, slice_index_or, slice_set, IfSome, Option}
use Rattle.dmf_path.specs.Search.{Covers, Searched}
use Rattle.dmf_path.specs.Touched.{IsTouched}
use Rattle.dmf_state.specs.declared.arc.Arc.{Arc}
use Rattle.dmf_state.specs.declared.edit.Move.{Move}
use Rattle.dmf_state.specs.declared.edit.Shutting.{Shutting}
use Rattle.dmf_state.specs.Arc.{is_open_at, no_arc}
use Rattle.dmf_solver.specs.declared.drain.Drained.{Drained}
use Rattle.dmf_solver.specs.CarryingNetwork.{MayCarry}
use Rattle.dmf_solver.specs.Drain.{Drains, TakesOff}
use Rattle.dmf_solver.specs.Pairs.{Along, IsCarryingSearch, flows_read}
use Rattle.dmf_state.specs.Flow.{flow_on, flow_on_all}
use Rattle.dmf_state.specs.Edit.{moved, MovesFit, differences}
use Rattle.dmf_state.specs.Network.{Network}
use Rattle.dmf_state.specs.NetworkState.{NetworkState, IsState, with_flows}

-- Draining the arcs of these numbers to 0 in turn makes `flows` into `last`.
abbrev pub DrainsInTurn : Network → List ℕ → List ℕ → List ℕ → Type 0
DrainsInTurn n [] flows last = flows ≡ last
DrainsInTurn n (j ∷ js) flows last = (next : List ℕ) × Drains n j 0 flows next × DrainsInTurn n js next last

-- What holds for the moves that drain the arcs of these numbers to 0 in turn.
pub record AreShuttingMoves (s : NetworkState) (js : List ℕ) (moves : List Move) : Type 0 where
  pub fit : MovesFit 0 moves s.flows
  pub differ : moves ≡ differences 1 s.flows (moved moves s.flows)
  pub drains : DrainsInTurn s.network js s.flows (moved moves s.flows)
  pub state : IsState (with_flows s (moved moves s.flows))
  pub takes_off : TakesOff s.network (flow_on_all s.flows js) s.flows (moved moves s.flows)

-- What holds for the moves that drain arc number `j`.
pub record AreDrainingMoves (s : NetworkState) (j limit : ℕ) (moves : List Move) : Type 0 where
  pub fit : MovesFit 0 moves s.flows
  pub differ : moves ≡ differences 1 s.flows (moved moves s.flows)
  pub drains : Drains s.network j limit s.flows (moved moves s.flows)
  pub state : IsState (with_flows s (moved moves s.flows))
  pub takes_off : TakesOff s.network (flow_on s.flows j - limit) s.flows (moved moves s.flows)

-- If there is a search, it is over the carrying steps of the flow after the moves, with any room of the return link.
abbrev pub CarriesMoved : NetworkState → Drained → Type 0
CarriesMoved s drained = IfSome drained.carrying (MayCarry (with_flows s (moved drained.moves.items s.flows)))

-- The flow on the arc at index `k` stays as it was.
abbrev pub Stays : List ℕ → List ℕ → ℕ → Type 0
Stays before after k = slice_index before k ≡ slice_index after k

-- This is the move of the arc at index `k`, whose flow differs.
pub record IsMoveAt (before after : List ℕ) (k : ℕ) (m : Move) : Type 0 where
  pub is : m ≡ record { arc = k + 1; from = slice_index before k; to = slice_index after k }
  pub differs : slice_index before k ≢ slice_index after k

-- The flow on each arc that does not count as touched stays as it was.
abbrev pub UntouchedStay : Option (List ℕ) → List ℕ → List ℕ → Type 0
UntouchedStay touched before after = (k : ℕ) → ¬ IsTouched touched k → Stays before after k

-- The indices ascend, and each arc whose index is left out keeps its flow. Some indices may be past the last arc.
pub record CoverDifferences (before after indices : List ℕ) : Type 0 where
  pub count : ℕ
  pub most : length before ≤ count
  pub covers : Covers count (Stays before after) indices

-- The arc at index `k`, if there is one, is closed, or not at node `v`.
abbrev pub IsNotOpenAt : List Arc → ℕ → ℕ → Type 0
IsNotOpenAt arcs v k = is_open_at v (slice_index_or arcs k no_arc) ≡ false

-- The arc at index `k` is open and at node `v`, and this is how it is shut.
pub record IsShuttingAt (arcs : List Arc) (v k : ℕ) (s : Shutting) : Type 0 where
  pub at : is_open_at v (slice_index_or arcs k no_arc) ≡ true
  pub is : s ≡ record { arc = k + 1; old = (slice_index_or arcs k no_arc).cap }

-- The indices ascend, and only arcs that are not open at node `v` are left out. Some indices may be past the last arc.
pub record CoverOpen (arcs : List Arc) (v : ℕ) (indices : List ℕ) : Type 0 where
  pub count : ℕ
  pub most : length arcs ≤ count
  pub covers : Covers count (IsNotOpenAt arcs v) indices

-- Arc number `j` is drained to 0 in the search, and its own number in the list is 0 then. The flows of arcs that do not count as
-- touched stay.
pub record DrainsNext (s : NetworkState) (j : ℕ) (unpaired : List ℕ) (touched : Option (List ℕ)) (old new : Searched) : Type 0 where
  pub carrying : IsCarryingSearch s (slice_set unpaired (j - 1) 0) new
  pub drains : Drains s.network j 0 (flows_read Along unpaired old.pairs) (flows_read Along (slice_set unpaired (j - 1) 0) new.pairs)
  pub others_stay : UntouchedStay touched (flows_read Along unpaired old.pairs) (flows_read Along (slice_set unpaired (j - 1) 0) new.pairs)
