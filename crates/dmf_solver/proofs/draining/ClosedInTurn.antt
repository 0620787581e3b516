-- Arcs closed in turn: the ends stay, so draining an arc is the same in both networks.
use Rattle.std.proofs.Common.{ℕ, ◌≡◌, ◌+◌, ◌-◌, List, [], ◌∷◌, ◌++◌, get_or, set, zero, suc, refl, ap, ◌∙◌, arith}
use Rattle.std.proofs.lemmas.List.{length-set}
use Rattle.dmf_path.specs.Step.{Step}
use Rattle.dmf_state.specs.declared.arc.Arc.{Arc}
use Rattle.dmf_state.specs.declared.edit.Shutting.{Shutting}
use Rattle.dmf_state.specs.Arc.{no_arc, closed_arc}
use Rattle.dmf_solver.specs.Change.{Closes}
use Rattle.dmf_solver.specs.Drain.{carried, carried_from, value_or_zero, return_link, carrying_steps, lowered, Lowers, Drains}
use Rattle.dmf_state.specs.Edit.{numbers, with_closed}
use Rattle.dmf_solver.specs.Moves.{DrainsInTurn}
use Rattle.dmf_state.specs.Network.{Network, arc_number}
use Rattle.dmf_state.proofs.ChangedArc.{flow_at-replaced}
use Rattle.dmf_state.proofs.ClosedArcs.{closed_at}

-- ---- the ends of an arc

ends-closed : (arcs : List Arc) (k i : ℕ) → ((get_or (set arcs k (closed_arc (get_or arcs k no_arc))) i no_arc).tail ≡ (get_or arcs i no_arc).tail)
    × ((get_or (set arcs k (closed_arc (get_or arcs k no_arc))) i no_arc).head ≡ (get_or arcs i no_arc).head)
ends-closed [] k i = (refl, refl)
ends-closed (a ∷ arcs) zero zero = (refl, refl)
ends-closed (a ∷ arcs) zero (suc i) = (refl, refl)
ends-closed (a ∷ arcs) (suc k) zero = (refl, refl)
ends-closed (a ∷ arcs) (suc k) (suc i) = ends-closed arcs k i

carried-closed : (i : ℕ) (arcs : List Arc) (flows : List ℕ) (k : ℕ) → carried_from i
    (set arcs k (closed_arc (get_or arcs k no_arc))) flows ≡ carried_from i arcs flows
carried-closed i [] flows k = refl
carried-closed i (a ∷ arcs) [] zero = refl
carried-closed i (a ∷ arcs) [] (suc k) = refl
carried-closed i (a ∷ arcs) (x ∷ flows) zero = refl
carried-closed i (a ∷ arcs) (x ∷ flows) (suc k) = ap (λ steps. carried i a x ++ steps) (carried-closed (i + 1) arcs flows k)

value-closed : (n : Network) (j : ℕ) (flows : List ℕ) → value_or_zero (closed_at n j) flows ≡ value_or_zero n flows
value-closed n j flows =
    let out = flow_at-replaced (λ a. a.tail) n.arcs flows (j - 1) (closed_arc (arc_number n j)) n.source refl in
    let into = flow_at-replaced (λ a. a.head) n.arcs flows (j - 1) (closed_arc (arc_number n j)) n.source refl in
    omega (arith, out, into)

steps-closed : (n : Network) (j : ℕ) (flows : List ℕ) → carrying_steps (closed_at n j) flows ≡ carrying_steps n flows
steps-closed n j flows =
    let long = length-set n.arcs (j - 1) (closed_arc (arc_number n j)) in
    let link : return_link (closed_at n j) flows ≡ return_link n flows = rw (value-closed n j flows, long) refl in
    ap (λ steps. steps ++ return_link (closed_at n j) flows) (carried-closed 1 n.arcs flows (j - 1)) ∙ ap (λ steps. carried_from 1 n.arcs flows ++ steps) link

-- ---- draining

lowers-closed : (n : Network) (j i limit : ℕ) (flows last : List ℕ) (paths : List (List Step)) → Lowers n i limit flows paths last
    → Lowers (closed_at n j) i limit flows paths last
lowers-closed n j i limit flows last [] is = is
lowers-closed n j i limit flows last (path ∷ paths) goes =
    let ends = ends-closed n.arcs (j - 1) (i - 1) in
    (goes.0, rw (steps-closed n j flows, ends.0, ends.1) goes.1, lowers-closed n j i limit (lowered i limit path flows) last paths goes.2)

drains-closed : (n : Network) (j i : ℕ) (flows last : List ℕ) → Drains n i 0 flows last → Drains (closed_at n j) i 0 flows last
drains-closed n j i flows last drains = record {
  paths = drains.paths;
  lowers = lowers-closed n j i 0 flows last drains.paths drains.lowers;
  within = drains.within;
}

in_turn-closed : (n : Network) (j : ℕ) (js flows last : List ℕ) → DrainsInTurn n js flows last → DrainsInTurn (closed_at n j) js flows last
in_turn-closed n j [] flows last is = is
in_turn-closed n j (i ∷ js) flows last drains = (drains.0, drains-closed n j i flows drains.0 drains.1, in_turn-closed n j js drains.0 last drains.2)

-- Draining arcs in turn closes them in turn.
pub closes-in_turn : (n : Network) (arcs : List Shutting) (flows last : List ℕ) → DrainsInTurn n (numbers arcs) flows last
    → Closes (numbers arcs) (record { network = n; flows = flows }) (record { network = with_closed arcs n; flows = last })
closes-in_turn n [] flows last is = λ i. record { network = n; flows = is i }
closes-in_turn n (a ∷ arcs) flows last drains = (
  record { network = closed_at n a.arc; flows = drains.0 },
  (refl, drains.1),
  closes-in_turn (closed_at n a.arc) arcs drains.0 last (in_turn-closed n a.arc (numbers arcs) drains.0 last drains.2),
)
