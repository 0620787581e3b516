-- The carrying pairs after flows and capacities of arcs change.
use Rattle.std.proofs.Common.{ℕ, ◌≡◌, ◌-◌, ◌<◌, List, [], ◌∷◌, ◌++◌, length, get_or, set, zero, suc, refl, ap, sym}
use Rattle.std.proofs.Common.{◌∙◌, subst, arith, Option, Some, None, IfSome}
use Rattle.dmf_links.specs.declared.pair.Pair.{Pair}
use Rattle.dmf_path.specs.Search.{Searched, with_pairs, with_rooms}
use Rattle.dmf_state.specs.declared.arc.Arc.{Arc}
use Rattle.dmf_state.specs.declared.edit.Edit.{Edit}
use Rattle.dmf_state.specs.declared.edit.Edit.TheVariants.{Cap, Add, Close, Shut, Solve}
use Rattle.dmf_state.specs.declared.edit.Move.{Move}
use Rattle.dmf_state.specs.declared.edit.Shutting.{Shutting}
use Rattle.dmf_state.specs.declared.moves.Direction.{Direction}
use Rattle.dmf_state.specs.declared.moves.Direction.TheVariants.{Forward, Back}
use Rattle.dmf_state.specs.Arc.{no_arc, closed_arc, open_arc, with_cap}
use Rattle.dmf_state.specs.Direction.{along, edited_along}
use Rattle.dmf_state.specs.Edit.{moved, moves_of, AddsArc}
use Rattle.dmf_state.specs.Network.{Network, arc_number, with_arc}
use Rattle.dmf_state.specs.NetworkState.{NetworkState, with_flows}
use Rattle.dmf_state.proofs.Moving.{IsMoveAt}
use Rattle.dmf_solver.specs.CarryingNetwork.{carrying_pair, carrying_from, return_of, CarriesWith, MayCarry}
use Rattle.dmf_solver.proofs.pairs.ArcPairs.{length-with_last, pairs-flow}
use Rattle.dmf_solver.proofs.pairs.CarryingPairs.{by_carrying_pair}
use Rattle.dmf_solver.proofs.kept.Followed.{AreFollowed, move-within, flows-along, shut_along, shut_arc, shut-first}

-- The return link gets a new room.
return-pairs : (n : Network) (arcs : List Arc) (flows : List ℕ) (room value : ℕ) → length flows ≡ length arcs
    → carrying_from arcs flows ++ return_of n value ∷ [] ≡ with_rooms (carrying_from arcs flows ++ return_of n room ∷ []) (length arcs) value 0
return-pairs n [] flows room value same = refl
return-pairs n (arc ∷ arcs) [] room value same = absurd (omega (arith, same))
return-pairs n (arc ∷ arcs) (flow ∷ flows) room value same =
    ap (λ (ps : List (Option Pair)). carrying_pair arc flow ∷ ps) (return-pairs n arcs flows room value (omega (arith, same)))

-- A search over the carrying steps of one state is one of another, once its pairs are those of the other.
pub carries-made : (s t : NetworkState) (room value : ℕ) (f : List (Option Pair) → List (Option Pair)) (old new : Searched) → CarriesWith s room old
    → new ≡ with_pairs old (f old.pairs) → t.network.nodes ≡ s.network.nodes
    → f (carrying_from s.network.arcs s.flows ++ return_of s.network room ∷ []) ≡ carrying_from t.network.arcs t.flows ++ return_of t.network value ∷ []
    → CarriesWith t value new
carries-made s t room value f old new carries made nodes pairs = record {
  nodes_are = ap (λ (o : Searched). o.nodes) made ∙ carries.nodes_are ∙ sym nodes;
  pairs_are = ap (λ (o : Searched). o.pairs) made ∙ ap f carries.pairs_are ∙ pairs;
  takes_none_back = ap (λ (o : Searched). o.takes_back) made ∙ carries.takes_none_back;
}

-- A search is one over carrying steps with these rooms.
pub return-followed : (s : NetworkState) (room value : ℕ) (old new : Searched) → length s.flows ≡ length s.network.arcs → CarriesWith s room old
    → new ≡ with_pairs old (with_rooms old.pairs (length s.network.arcs) value 0) → CarriesWith s value new
return-followed s room value old new same carries is =
    carries-made s s room value (λ pairs. with_rooms pairs (length s.network.arcs) value 0) old new carries is refl
    (sym (return-pairs s.network s.network.arcs s.flows room value same))

-- ---- moves in turn

-- there is a pair for the next move
pub pair-within : (n : Network) (moves : List Move) (last : List ℕ) (i : ℕ) (m : Move) (search : Searched) → IsMoveAt moves i m
    → AreFollowed MayCarry n moves last i search → m.arc - 1 < length search.pairs
pair-within n moves last i m search move are =
    let within = (move-within MayCarry n moves last i m search move are).1 in
    let long = length-with_last by_carrying_pair n.arcs are.flows (return_of n are.is.0) are.one_each in
    omega (arith, within, long, ap (λ (ps : List (Option Pair)). length ps) are.is.1.pairs_are)

-- A new flow on an arc is a new room along its pair.
pub carrying-next : (n : Network) (flows : List ℕ) (k flow : ℕ) (old new : Searched) → length flows ≡ length n.arcs → k < length n.arcs
    → MayCarry (record { network = n; flows = flows }) old → new ≡ with_pairs old (with_rooms old.pairs k flow 0)
    → MayCarry (record { network = n; flows = set flows k flow }) new
carrying-next n flows k flow old new same h may is = (
  may.0,
  carries-made (record { network = n; flows = flows }) (record { network = n; flows = set flows k flow }) may.0 may.0 (λ pairs. with_rooms pairs k flow 0)
      old new may.1 is refl (sym (pairs-flow by_carrying_pair n.arcs flows (return_of n may.0 ∷ []) k flow same h)),
)

-- ---- capacities

-- The other network has the same nodes and terminals, and arcs with the same ends.
pub record HasSameEnds (n m : Network) : Type 0 where
  pub nodes : m.nodes ≡ n.nodes
  pub source : m.source ≡ n.source
  pub sink : m.sink ≡ n.sink
  pub pairs : (flows : List ℕ) → carrying_from m.arcs flows ≡ carrying_from n.arcs flows

ends-same : (n : Network) → HasSameEnds n n
ends-same n = record { nodes = refl; source = refl; sink = refl; pairs = λ flows. refl }

ends-in_turn : (n m o : Network) → HasSameEnds n m → HasSameEnds m o → HasSameEnds n o
ends-in_turn n m o first second = record {
  nodes = second.nodes ∙ first.nodes;
  source = second.source ∙ first.source;
  sink = second.sink ∙ first.sink;
  pairs = λ flows. second.pairs flows ∙ first.pairs flows;
}

pairs-ends : (arcs : List Arc) (k : ℕ) (arc : Arc) (flows : List ℕ) → arc.tail ≡ (get_or arcs k no_arc).tail → arc.head ≡ (get_or arcs k no_arc).head
    → carrying_from (set arcs k arc) flows ≡ carrying_from arcs flows
pairs-ends [] k arc flows tail head = refl
pairs-ends (old ∷ arcs) zero arc [] tail head = refl
pairs-ends (old ∷ arcs) zero arc (flow ∷ flows) tail head = rw (tail, head) refl
pairs-ends (old ∷ arcs) (suc k) arc [] tail head = refl
pairs-ends (old ∷ arcs) (suc k) arc (flow ∷ flows) tail head =
    ap (λ (ps : List (Option Pair)). carrying_pair old flow ∷ ps) (pairs-ends arcs k arc flows tail head)

-- an arc with the same ends in place of another
ends-arc : (n : Network) (j : ℕ) (arc : Arc) → arc.tail ≡ (arc_number n j).tail → arc.head ≡ (arc_number n j).head → HasSameEnds n (with_arc n j arc)
ends-arc n j arc tail head = record { nodes = refl; source = refl; sink = refl; pairs = λ flows. pairs-ends n.arcs (j - 1) arc flows tail head }

-- arcs closed in turn, or opened again
ends-shut : (d : Direction) (arcs : List Shutting) (n : Network) → HasSameEnds n (shut_along d arcs n)
ends-shut Forward [] n = ends-same n
ends-shut Back [] n = ends-same n
ends-shut d (a ∷ arcs) n =
    let next = with_arc n a.arc (shut_arc d a (arc_number n a.arc)) in
    subst (HasSameEnds n) (shut-first d a arcs n)
    (ends-in_turn n next (shut_along d arcs next) (ends-arc n a.arc (shut_arc d a (arc_number n a.arc)) refl refl) (ends-shut d arcs next))

-- An edit that adds no arc leaves the ends of all arcs.
ends-along : (d : Direction) (edit : Edit) (s : NetworkState) → (AddsArc edit → ⊥) → HasSameEnds s.network (edited_along d edit s).network
ends-along d (Add tail head cap) s none = absurd (none tt)
ends-along Forward (Cap j old new moves) s none = ends-arc s.network j (with_cap new (arc_number s.network j)) refl refl
ends-along Forward (Close j old moves) s none = ends-arc s.network j (closed_arc (arc_number s.network j)) refl refl
ends-along Forward (Shut arcs moves) s none = ends-shut Forward arcs.items s.network
ends-along Forward (Solve moves) s none = ends-same s.network
ends-along Back (Cap j old new moves) s none = ends-arc s.network j (open_arc (arc_number s.network j).tail (arc_number s.network j).head old) refl refl
ends-along Back (Close j old moves) s none = ends-arc s.network j (open_arc (arc_number s.network j).tail (arc_number s.network j).head old) refl refl
ends-along Back (Shut arcs moves) s none = ends-shut Back arcs.items s.network
ends-along Back (Solve moves) s none = ends-same s.network

-- So a search over carrying steps stays one,
may_carry-ends : (n m : Network) (flows : List ℕ) (search : Searched) → HasSameEnds n m → MayCarry (record { network = n; flows = flows }) search
    → MayCarry (record { network = m; flows = flows }) search
may_carry-ends n m flows search ends is =
    let last : return_of n is.0 ≡ return_of m is.0 = rw (ends.sink, ends.source) refl in (
      is.0,
      carries-made (record { network = n; flows = flows }) (record { network = m; flows = flows }) is.0 is.0 (λ pairs. pairs) search search is.1 refl ends.nodes
          (λ i. sym (ends.pairs flows) i ++ last i ∷ []),
    )

-- and after the moves of an edit it is a search of the state that the edit makes.
may_carry-along : (d : Direction) (edit : Edit) (s : NetworkState) (search : Searched) → (AddsArc edit → ⊥)
    → MayCarry (with_flows s (moved (along d (moves_of edit)) s.flows)) search → MayCarry (edited_along d edit s) search
may_carry-along d edit s search none is =
    let t : NetworkState = edited_along d edit s in
    subst (λ flows. MayCarry (record { network = t.network; flows = flows }) search) (flows-along d edit s none)
    (may_carry-ends s.network t.network (moved (along d (moves_of edit)) s.flows) search (ends-along d edit s none) is)

-- If there is no search before, there is none after.
pub some_carry-along : (d : Direction) (edit : Edit) (s : NetworkState) (carrying : Option Searched) → (AddsArc edit → ⊥)
    → IfSome carrying (MayCarry (with_flows s (moved (along d (moves_of edit)) s.flows))) → IfSome carrying (MayCarry (edited_along d edit s))
some_carry-along d edit s None none is = tt
some_carry-along d edit s (Some search) none is = may_carry-along d edit s search none is
