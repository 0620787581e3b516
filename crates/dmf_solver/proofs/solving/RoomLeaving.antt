-- The rooms of the links that leave the source: the flow that can still leave it, which falls as a flow grows.
use Rattle.std.proofs.Common.{ℕ, ◌≡◌, ◌+◌, ◌<◌, ◌≤◌, ◌==◌, ◌&&◌, not, cond, List, [], ◌∷◌, sum_by, refl, arith, Option, Some, None}
use Rattle.std.specs.List.{zip}
use Rattle.std.proofs.lemmas.Bool.Decides.{nat_tests}
use Rattle.std.proofs.lemmas.Int.{ints}
use Rattle.std.proofs.lemmas.List.Sums.{sum_by-cons, sum_by_push}
use Rattle.dmf_links.specs.declared.pair.Pair.{Pair}
use Rattle.dmf_path.specs.Step.{Step}
use Rattle.dmf_path.specs.Path.{IsLeastPath}
use Rattle.dmf_state.specs.declared.arc.Arc.{Arc}
use Rattle.dmf_state.specs.Flow.{AreWithinCapacities, outflow, inflow}
use Rattle.dmf_state.specs.Network.{Network}
use Rattle.dmf_state.specs.NetworkState.{NetworkState, IsState, with_flows}
use Rattle.dmf_solver.specs.Residual.{residual_steps, augmented}
use Rattle.dmf_solver.specs.ResidualNetwork.{residual_pair, residual_pairs, closed_return, network_pairs}
use Rattle.dmf_solver.proofs.solving.Augmenting.{room-positive, augmented-value}

-- the rooms of the links of a pair that leave node `v`
abbrev room_at : ℕ → Option Pair → ℕ
room_at v None = 0
room_at v (Some p) = cond (p.tail == v) p.along 0 + cond (p.head == v) p.against 0

-- the rooms of all links that leave node `v`
abbrev pub room_leaving : List (Option Pair) → ℕ → ℕ
room_leaving pairs v = sum_by (room_at v) pairs

-- the most flow on an arc that leaves node `v` for another node
abbrev capacity_at : ℕ → Arc → ℕ
capacity_at v arc = cond (arc.tail == v && not (arc.tail == arc.head)) arc.cap 0

-- at one arc
room_at-residual : (v : ℕ) (arc : Arc) (flow : ℕ) → flow ≤ arc.cap → room_at v (residual_pair arc flow) + cond (arc.tail == v) flow 0 ≡ cond
    (arc.head == v) flow 0 + capacity_at v arc
room_at-residual v arc flow within = grind (arith, nat_tests)

-- The flow that can still leave a node is the capacity of its arcs minus its outflow.
room_leaving-residual : (v : ℕ) (arcs : List Arc) (flows : List ℕ) → AreWithinCapacities arcs flows
    → room_leaving (residual_pairs arcs flows) v + outflow arcs flows v ≡ inflow arcs flows v + sum_by (capacity_at v) arcs
room_leaving-residual v [] [] within = refl
room_leaving-residual v [] (flow ∷ flows) within = absurd within
room_leaving-residual v (arc ∷ arcs) [] within = absurd within
room_leaving-residual v (arc ∷ arcs) (flow ∷ flows) within =
    let sum = λ (end : Arc → ℕ). sum_by-cons (λ (p : Arc × ℕ). cond (end p.0 == v) p.1 0) (arc, flow) (zip arcs flows) in
    let rooms = sum_by-cons (room_at v) (residual_pair arc flow) (residual_pairs arcs flows) in
    let tails = sum (λ a. a.tail) in
    let heads = sum (λ a. a.head) in
    let rest = room_leaving-residual v arcs flows within.1 in
    omega (arith, room_at-residual v arc flow within.0, rest, rooms, sum_by-cons (capacity_at v) arc arcs, tails, heads)

-- The return link has no room.
room_at-return : (v : ℕ) (n : Network) → room_at v (closed_return n) ≡ 0
room_at-return v n = grind (arith, nat_tests)

room_leaving-network : (n : Network) (flows : List ℕ) (v : ℕ) → room_leaving (network_pairs n flows) v ≡ room_leaving (residual_pairs n.arcs flows) v
room_leaving-network n flows v =
    omega (arith, sum_by_push (room_at v) (residual_pairs n.arcs flows) (closed_return n), room_at-return v n)

-- This falls with each path.
pub room_leaving-falls : (s : NetworkState) (flows : List ℕ) (path : List Step) → IsState (with_flows s flows) → IsState (with_flows s (augmented path flows))
    → IsLeastPath (residual_steps s.network.arcs flows) s.network.source s.network.sink path
    → room_leaving (network_pairs s.network (augmented path flows)) s.network.source < room_leaving (network_pairs s.network flows) s.network.source
room_leaving-falls s flows path state after least =
    let room = room-positive s.network flows path state.network.two_terminals least in
    let value = augmented-value s.network flows path state.network state.flow least in
    let before = room_leaving-residual s.network.source s.network.arcs flows state.flow.within in
    let then = room_leaving-residual s.network.source s.network.arcs (augmented path flows) after.flow.within in
    let same = room_leaving-network s.network flows s.network.source in
    let later = room_leaving-network s.network (augmented path flows) s.network.source in
    omega (arith, ints, room, value, before, then, same, later)
