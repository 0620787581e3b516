-- States whose arcs are closed, or opened again, one after the other.
use Rattle.std.proofs.Common.{ℕ, ◌≡◌, ◌+◌, ◌-◌, ◌<◌, ◌≤◌, true, List, [], ◌∷◌, length, get_or, drop, refl, ap, sym, ◌∙◌, subst, arith, Vec, Global}
use Rattle.std.proofs.lemmas.List.{get_or-set_same}
use Rattle.dmf_state.specs.declared.arc.Arc.{Arc}
use Rattle.dmf_state.specs.declared.edit.Edit.TheVariants.{Shut}
use Rattle.dmf_state.specs.declared.edit.Move.{Move}
use Rattle.dmf_state.specs.declared.edit.Shutting.{Shutting}
use Rattle.dmf_state.specs.Arc.{no_arc, closed_arc}
use Rattle.dmf_state.specs.Direction.{AreClosed}
use Rattle.dmf_state.specs.Edit.{AreOpenWith, moved, numbers, with_closed}
use Rattle.dmf_state.specs.Flow.{flow_on}
use Rattle.dmf_state.specs.Network.{Network, IsNetwork, arc_number, has_arc}
use Rattle.dmf_state.specs.NetworkState.{NetworkState, IsState}
use Rattle.dmf_state.specs.Revert.{with_open, with_opened, Stands}
use Rattle.dmf_state.proofs.ChangedArc.{has_arc-within}
use Rattle.dmf_state.proofs.ChangedState.{IsState-with_arc_back}
use Rattle.dmf_state.proofs.Changing.{within-at}
use Rattle.dmf_state.proofs.ClosedArcs.{closed_at, no_shutting, left-next, open-rest, IsState-all_closed, AreWithoutFlow}
use Rattle.dmf_state.proofs.ClosedTogether.{IsNetwork-closed, open-before, with_open-replaced, length-closed}

-- A flow of the network with these arcs closed is also a flow with them open, and is 0 on them.
pub IsState-before_closed : (last : ℕ) (arcs : List Shutting) (n : Network) (flows : List ℕ) → IsNetwork n → AreOpenWith last arcs n
    → IsState (record { network = with_closed arcs n; flows = flows }) → IsState (record { network = n; flows = flows }) × AreWithoutFlow flows (numbers arcs)
IsState-before_closed last [] n flows network are state = (state, tt)
IsState-before_closed last (a ∷ arcs) n flows network are state =
    let has = are.1.is_there in
    let rest = IsState-before_closed a.arc arcs (closed_at n a.arc) flows (IsNetwork-closed n a.arc network has) (open-rest last a arcs n are) state in
    let here : arc_number (closed_at n a.arc) a.arc ≡ closed_arc (arc_number n a.arc) =
    get_or-set_same n.arcs (a.arc - 1) _ no_arc (has_arc-within n a.arc has).1 in
    let none : flow_on flows a.arc ≤ 0 =
    omega (arith, within-at (closed_at n a.arc).arcs flows (a.arc - 1) rest.0.flow.within, ap (λ (b : Arc). b.cap) here) in (
      IsState-with_arc_back (record { network = n; flows = flows }) a.arc (closed_arc (arc_number n a.arc)) network rest.0 has refl refl (omega arith),
      (none, rest.1),
    )

-- ---- closing them one by one

-- Closing the remaining arcs gives the network that closing all of them gives.
pub record AreClosedUpTo (final : Network) (left : List Shutting) (t : NetworkState) (flows : List ℕ) : Type 0 where
  pub last : ℕ
  pub are : AreOpenWith last left t.network
  pub state : IsState (record { network = with_closed left t.network; flows = t.flows })
  pub final_is : with_closed left t.network ≡ final
  pub flows_are : t.flows ≡ flows

pub record ClosesNext (final : Network) (a : Shutting) (left : List Shutting) (t : NetworkState) (flows : List ℕ) : Type 0 where
  pub state : IsState (record { network = closed_at t.network a.arc; flows = t.flows })
  pub up_to : AreClosedUpTo final left (record { network = closed_at t.network a.arc; flows = t.flows }) flows

-- Closing the next arc leaves a state, and the rest to be closed.
pub closes-next : (final : Network) (arcs : List Shutting) (i : ℕ) (t : NetworkState) (flows : List ℕ) → IsState t → i < length arcs
    → AreClosedUpTo final (drop i arcs) t flows → ClosesNext final (get_or arcs i no_shutting) (drop (i + 1) arcs) t flows
closes-next final arcs i t flows state inside up_to =
    let a = get_or arcs i no_shutting in
    let rest = drop (i + 1) arcs in
    let own : AreClosedUpTo final (a ∷ rest) t flows = rw (left-next arcs i inside) at up_to in
    let has = own.are.1.is_there in
    let later = open-rest own.last a rest t.network own.are in
    record {
      state = (IsState-before_closed a.arc rest (closed_at t.network a.arc) t.flows (IsNetwork-closed t.network a.arc state.network has) later own.state).0;
      up_to = record { last = a.arc; are = later; state = own.state; final_is = own.final_is; flows_are = own.flows_are };
    }

-- ---- opening them one by one

-- Where an edit that shut arcs stands in a state, these arcs are closed together in it.
pub AreClosed-stands : (arcs : Vec Shutting Global) (moves : Vec Move Global) (t : NetworkState) → Stands (Shut arcs moves) t → AreClosed arcs.items t
AreClosed-stands arcs moves t stands =
    let s : NetworkState = stands.before in
    let flows : List ℕ = moved moves.items s.flows in
    let before = (IsState-before_closed 0 arcs.items s.network flows stands.state.network stands.fits.arc stands.fits.applied).0 in
    record {
      before = s.network;
      state = subst (λ (u : NetworkState). IsState (record { network = s.network; flows = u.flows })) stands.gives before;
      are_open = stands.fits.arc;
      gives = ap (λ (u : NetworkState). u.network) stands.gives;
    }

-- Opening the remaining arcs gives the network that opening all of them gives.
pub record AreOpenedUpTo (final : Network) (left : List Shutting) (t : NetworkState) (flows : List ℕ) : Type 0 where
  pub last : ℕ
  pub before : Network
  pub state : IsState (record { network = before; flows = t.flows })
  pub are : AreOpenWith last left before
  pub gives : with_closed left before ≡ t.network
  pub final_is : with_opened left t.network ≡ final
  pub flows_are : t.flows ≡ flows

pub record OpensNext (final : Network) (a : Shutting) (left : List Shutting) (t : NetworkState) (flows : List ℕ) : Type 0 where
  pub state : IsState (record { network = with_open t.network a.arc a.old; flows = t.flows })
  pub up_to : AreOpenedUpTo final left (record { network = with_open t.network a.arc a.old; flows = t.flows }) flows

-- The network has the next of these arcs.
pub opens-has : (final : Network) (arcs : List Shutting) (i : ℕ) (t : NetworkState) (flows : List ℕ) → i < length arcs
    → AreOpenedUpTo final (drop i arcs) t flows → has_arc t.network (get_or arcs i no_shutting).arc ≡ true
opens-has final arcs i t flows inside up_to =
    let a = get_or arcs i no_shutting in
    let rest = drop (i + 1) arcs in
    let own : AreOpenedUpTo final (a ∷ rest) t flows = rw (left-next arcs i inside) at up_to in
    rw (← own.gives, length-closed (a ∷ rest) own.before) own.are.1.is_there

-- Opening the first of them leaves the others closed.
opened-first : (last : ℕ) (a : Shutting) (rest : List Shutting) (n : Network) → AreOpenWith last (a ∷ rest) n
    → with_open (with_closed (a ∷ rest) n) a.arc a.old ≡ with_closed rest n
opened-first last a rest n are =
    open-before a.arc rest n (closed_at n a.arc) a.arc a.old (omega (arith, are.0)) (omega arith) are.2
    ∙ ap (with_closed rest) (with_open-replaced n a.arc a.old (closed_arc (arc_number n a.arc)) are.1 refl refl)

-- Opening the next arc leaves a state, and the rest to be opened.
pub opens-next : (final : Network) (arcs : List Shutting) (i : ℕ) (t : NetworkState) (flows : List ℕ) → IsState t → i < length arcs
    → AreOpenedUpTo final (drop i arcs) t flows → OpensNext final (get_or arcs i no_shutting) (drop (i + 1) arcs) t flows
opens-next final arcs i t flows state inside up_to =
    let a = get_or arcs i no_shutting in
    let rest = drop (i + 1) arcs in
    let own : AreOpenedUpTo final (a ∷ rest) t flows = rw (left-next arcs i inside) at up_to in
    let n : Network = own.before in
    let opened : with_open t.network a.arc a.old ≡ with_closed rest n = rw (← own.gives) (opened-first own.last a rest n own.are) in
    let none = (IsState-before_closed own.last (a ∷ rest) n t.flows own.state.network own.are
    (subst (λ m. IsState (record { network = m; flows = t.flows })) (sym own.gives) state)).1 in
    let others : AreOpenWith a.arc rest n = own.are.2 in
    record {
      state = rw opened (IsState-all_closed a.arc rest n t.flows own.state others none.1);
      up_to = record { last = a.arc; before = n; state = own.state; are = others; gives = sym opened; final_is = own.final_is; flows_are = own.flows_are };
    }
