-- What reverting an edit makes of the state that the edit made.
use Rattle.std.proofs.Common.{ℕ, ◌≡◌, ◌-◌, ◌+◌, ◌≤◌, List, [], ◌∷◌, ◌++◌, length, take, map, get_or, false, refl, ap, ◌∙◌, sym, subst, arith}
use Rattle.std.proofs.lemmas.List.{take_at, length_push, get_or_push}
use Rattle.std.proofs.lemmas.List.Sums.{sum_by_push}
use Rattle.std.proofs.lemmas.Slice.Zip.{AllZip-long}
use Rattle.dmf_state.specs.declared.arc.Arc.{Arc}
use Rattle.dmf_state.specs.declared.edit.Edit.{Edit}
use Rattle.dmf_state.specs.declared.edit.Edit.TheVariants.{Cap, Add, Close, Shut, Solve}
use Rattle.dmf_state.specs.declared.edit.Move.{Move}
use Rattle.dmf_state.specs.declared.flow_sums.NodeFlow.{NodeFlow}
use Rattle.dmf_state.specs.Arc.{no_arc, open_arc, with_cap, closed_arc, capacity_sum, open_count}
use Rattle.dmf_state.specs.Network.{Network, arc_number}
use Rattle.dmf_state.specs.NetworkState.{NetworkState, IsState, with_idle_arc}
use Rattle.dmf_state.specs.Totals.{KeepsTotals}
use Rattle.dmf_state.specs.Edit.{MovesFit, moved, moves_of}
use Rattle.dmf_state.specs.Revert.{opposite, moved_back, without_last, reverted, Stands}
use Rattle.dmf_state.specs.Direction.{HasIdleLast}
use Rattle.dmf_state.proofs.IdleArc.{flow_at-idle}
use Rattle.dmf_state.proofs.ClosedTogether.{with_open-replaced, with_opened-closed}
use Rattle.dmf_state.proofs.TakenBack.{moved_back-moved, MovesFit-opposite}
use Rattle.dmf_state.specs.Laws.{HasOneBefore, GivesBack}

-- a list without the element that was appended to it
take-push : {A : Type 0} (xs : List A) (x : A) → take (length (xs ++ x ∷ []) - 1) (xs ++ x ∷ []) ≡ xs
take-push xs x = take_at xs (x ∷ []) (length (xs ++ x ∷ []) - 1) (omega (arith, length_push xs x))

-- Without its new arc, a state is as it was.
pub without_last-idle : (s : NetworkState) (arc : Arc) → without_last (with_idle_arc s arc) ≡ s
without_last-idle s arc =
    let arcs = take-push s.network.arcs arc in
    let flows = take-push s.flows 0 in
    λ i. record {
      network = record { nodes = s.network.nodes; source = s.network.source; sink = s.network.sink; arcs = arcs i };
      flows = flows i;
    }

-- Where the network is that before an edit, its moves restore the flows.
taken-back : (s : NetworkState) (n : Network) (moves : List Move) → n ≡ s.network → MovesFit 0 moves s.flows
    → ◌≡◌ {A = NetworkState} (record { network = n; flows = moved_back moves (moved moves s.flows) }) s
taken-back s n moves network fit = λ i. record { network = network i; flows = moved_back-moved 0 moves s.flows fit i }

-- Taking back an edit gives back the state before it.
pub gives-back : GivesBack
gives-back (Add tail head cap) s fits = without_last-idle s (open_arc tail head cap)
gives-back (Cap j old new moves) s fits =
    taken-back s _ moves.items (with_open-replaced s.network j old (with_cap new (arc_number s.network j)) fits.arc refl refl) fits.moves
gives-back (Close j old moves) s fits =
    taken-back s _ moves.items (with_open-replaced s.network j old (closed_arc (arc_number s.network j)) fits.arc refl refl) fits.moves
gives-back (Shut arcs moves) s fits = taken-back s _ moves.items (with_opened-closed 0 arcs.items s.network fits.arc) fits.moves
gives-back (Solve moves) s fits = taken-back s s.network moves.items refl fits.moves

-- Only one state is before an edit.
pub one-before : HasOneBefore
one-before edit s t fits_s fits_t same = sym (gives-back edit s fits_s) ∙ ap (reverted edit) same ∙ gives-back edit t fits_t

-- Where an edit stands, the reverting moves fit the flows,
pub fit-back : (edit : Edit) (t : NetworkState) (moves : List Move) → Stands edit t → moves_of edit ≡ moves → MovesFit 0 (map opposite moves) t.flows
fit-back (Add tail head cap) t moves stands is = rw (← is) tt
fit-back (Cap j old new of_it) t moves stands is = rw (← is) (rw (← stands.gives) (MovesFit-opposite 0 of_it.items stands.before.flows stands.fits.moves))
fit-back (Close j old of_it) t moves stands is = rw (← is) (rw (← stands.gives) (MovesFit-opposite 0 of_it.items stands.before.flows stands.fits.moves))
fit-back (Shut arcs of_it) t moves stands is = rw (← is) (rw (← stands.gives) (MovesFit-opposite 0 of_it.items stands.before.flows stands.fits.moves))
fit-back (Solve of_it) t moves stands is = rw (← is) (rw (← stands.gives) (MovesFit-opposite 0 of_it.items stands.before.flows stands.fits.moves))

-- and the result, without the added arc, is a state.
pub IsState-reverted : (edit : Edit) (t : NetworkState) → Stands edit t → IsState (reverted edit t)
IsState-reverted edit t stands =
    subst IsState (sym (gives-back edit stands.before stands.fits) ∙ ap (reverted edit) stands.gives) stands.state

-- the totals without the last arc, which carries no flow
totals-before : (s : NetworkState) (arc : Arc) (sum : ℕ) (source : NodeFlow) (count : ℕ) → IsState s → arc.closed ≡ false
    → KeepsTotals (with_idle_arc s arc) sum source count → KeepsTotals s (sum - arc.cap) source (count - 1)
totals-before s arc sum source count state is_open keeps =
    let long = AllZip-long _ s.network.arcs s.flows state.flow.within in
    let sums : capacity_sum (s.network.arcs ++ arc ∷ []) ≡ capacity_sum s.network.arcs + arc.cap = sum_by_push (λ (a : Arc). a.cap) s.network.arcs arc in
    let counts : open_count (s.network.arcs ++ arc ∷ []) ≡ open_count s.network.arcs + 1 = rw (sum_by_push, is_open) refl in
    record {
      state = state;
      sum_is = omega (arith, keeps.sum_is, sums);
      at_source = record {
        leaving = keeps.at_source.leaving ∙ flow_at-idle (λ a. a.tail) s.network.arcs s.flows arc s.network.source long;
        entering = keeps.at_source.entering ∙ flow_at-idle (λ a. a.head) s.network.arcs s.flows arc s.network.source long;
      };
      count_is = omega (arith, keeps.count_is, counts);
    }

-- the last arc of a state, where it carries no flow, and the totals without it
pub KeepsTotals-without_last : (t : NetworkState) (sum : ℕ) (source : NodeFlow) (count : ℕ) → HasIdleLast t → KeepsTotals t sum source count
    → KeepsTotals (without_last t) (sum - (get_or t.network.arcs (length t.network.arcs - 1) no_arc).cap) source (count - 1)
KeepsTotals-without_last t sum source count has keeps =
    let s = has.before in
    let arc = has.arc in
    let one_more = length_push s.network.arcs arc in
    let last : get_or (s.network.arcs ++ arc ∷ []) (length (s.network.arcs ++ arc ∷ []) - 1) no_arc ≡ arc =
    get_or_push s.network.arcs arc no_arc _ (omega (arith, one_more)) in
    let before = totals-before s arc sum source count has.state has.is_open (subst (λ u. KeepsTotals u sum source count) (sym has.gives) keeps) in
    rw (← has.gives, last, without_last-idle s arc) before

-- A state with an idle last arc has an arc.
pub length-idle_last : (t : NetworkState) → HasIdleLast t → 1 ≤ length t.network.arcs
length-idle_last t has =
    let long = length_push has.before.network.arcs has.arc in
    omega (arith, long, ap (λ u. length u.network.arcs) has.gives)
