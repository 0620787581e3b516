-- A change has one outcome. Each augmenting path is the least one, and paths are taken until none is left. The same holds for the paths
-- that lower an arc until no more than the limit flows on it.
use Rattle.std.proofs.Common.{ℕ, ◌≡◌, List, [], ◌∷◌, All, sym, ◌∙◌, subst}
use Rattle.dmf_path.specs.Step.{Step}
use Rattle.dmf_state.specs.Arc.{IsArc, open_arcs_at}
use Rattle.dmf_state.specs.Network.{Network, IsNetwork}
use Rattle.dmf_state.specs.NetworkState.{NetworkState}
use Rattle.dmf_path.specs.Path.{HasNoPath}
use Rattle.dmf_solver.specs.Residual.{residual_steps, augmented}
use Rattle.dmf_solver.specs.Solve.{AugmentsInTurn}
use Rattle.dmf_solver.specs.Change.{Cap, Add, Close, Shut, Solve, ClosesArc, Closes}
use Rattle.dmf_path.proofs.paths.OneLeast.{one-least}
use Rattle.dmf_solver.proofs.solving.ResidualSteps.{AreSteps-residual}
use Rattle.dmf_solver.proofs.draining.Draining.{one-drained}
use Rattle.dmf_state.proofs.ClosedArcs.{HasArcs}
use Rattle.dmf_state.proofs.ClosedTogether.{IsNetwork-closed, HasArcs-closed, HasArcs-at}
use Rattle.dmf_solver.specs.Laws.{HasOneOutcome}

-- Augmenting from the same flows ends at the same flows.
one-last : (n : Network) → All (IsArc n.nodes) n.arcs → (last other : List ℕ) → HasNoPath (residual_steps n.arcs last) n.source n.sink
    → HasNoPath (residual_steps n.arcs other) n.source n.sink → (flows : List ℕ) (paths more : List (List Step)) → AugmentsInTurn n flows paths last
    → AugmentsInTurn n flows more other → last ≡ other
one-last n arcs last other last_none other_none flows [] [] is same = sym is ∙ same
one-last n arcs last other last_none other_none flows [] (path ∷ more) is goes =
    absurd (subst (λ xs. HasNoPath (residual_steps n.arcs xs) n.source n.sink) (sym is) last_none path goes.0.leads)
one-last n arcs last other last_none other_none flows (path ∷ paths) [] goes is =
    absurd (subst (λ xs. HasNoPath (residual_steps n.arcs xs) n.source n.sink) (sym is) other_none path goes.0.leads)
one-last n arcs last other last_none other_none flows (path ∷ paths) (second ∷ more) goes moves =
    let ascend = (AreSteps-residual n.nodes n.arcs flows arcs).ascending in
    let same : path ≡ second = one-least (residual_steps n.arcs flows) ascend n.source n.sink path second goes.0 moves.0 in
    one-last n arcs last other last_none other_none (augmented path flows) paths more goes.1
    (subst (λ p. AugmentsInTurn n (augmented p flows) more other) (sym same) moves.1)

-- Closing an arc of the same state makes the same state,
one-closed : (s t u : NetworkState) (j : ℕ) → IsNetwork s.network → ClosesArc s j t → ClosesArc s j u → t ≡ u
one-closed s t u j network is same =
    let here : t.network ≡ u.network = is.0 ∙ sym same.0 in
    let flows : t.flows ≡ u.flows = one-drained s.network j 0 s.flows t.flows u.flows network is.1 same.1 in
    λ i. record { network = here i; flows = flows i }

-- and so does closing arcs in turn.
one-closed_in_turn : (js : List ℕ) (s t u : NetworkState) → IsNetwork s.network → HasArcs s.network js → Closes js s t → Closes js s u → t ≡ u
one-closed_in_turn [] s t u network has is same = sym is ∙ same
one-closed_in_turn (j ∷ js) s t u network has is same =
    let back = sym is.1.0 in
    one-closed_in_turn js is.0 t u (subst IsNetwork back (IsNetwork-closed s.network j network has.0))
    (subst (λ n. HasArcs n js) back (HasArcs-closed s.network j js has.1)) is.2
    (subst (λ w. Closes js w u) (sym (one-closed s is.0 same.0 j network is.1 same.1)) same.2)

-- Each change has one outcome.
pub one-outcome : HasOneOutcome
one-outcome s t u (Cap j cap) state is same =
    let network : t.network ≡ u.network = is.0 ∙ sym same.0 in
    let flows : t.flows ≡ u.flows = one-drained s.network j cap s.flows t.flows u.flows state.network is.1 same.1 in
    λ i. record { network = network i; flows = flows i }
one-outcome s t u (Close j) state is same = one-closed s t u j state.network is same
one-outcome s t u (Add tail head cap) state is same = is ∙ sym same
one-outcome s t u (Shut v) state is same =
    one-closed_in_turn (open_arcs_at v 1 s.network.arcs) s t u state.network (HasArcs-at v s.network) is same
one-outcome s t u Solve state is same =
    let network : t.network ≡ u.network = is.0 ∙ sym same.0 in
    let flows : t.flows ≡ u.flows = one-last s.network state.network.arcs t.flows u.flows is.1.no_path same.1.no_path s.flows is.1.paths same.1.paths
    is.1.augments same.1.augments in
    λ i. record { network = network i; flows = flows i }
