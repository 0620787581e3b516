-- How the sums of a flow change when the flow of one arc does.
use Rattle.std.proofs.Common.{ℕ, ◌≡◌, ◌+◌, ◌<◌, ◌≤◌, ◌==◌, List, [], ◌∷◌, length, get_or, set, zero, suc, cond, refl, ap}
use Rattle.std.proofs.Common.{arith}
use Rattle.std.specs.List.{zip}
use Rattle.std.proofs.lemmas.List.Sums.{sum_by-set, sum_by-cons}
use Rattle.std.proofs.lemmas.Slice.Zip.{length-zip, get_or-zip}
use Rattle.dmf_state.specs.declared.arc.Arc.{Arc}
use Rattle.dmf_state.specs.Arc.{capacity_sum}
use Rattle.dmf_state.specs.Flow.{flow_at, AreWithinCapacities}
use Rattle.dmf_state.specs.Arc.{no_arc}
use Rattle.dmf_state.proofs.Summing.{part-le}

-- pairing the arcs with the flows, of which one is changed
pub zip-set : (arcs : List Arc) (flows : List ℕ) (k y : ℕ) → zip arcs (set flows k y) ≡ set (zip arcs flows) k (get_or arcs k no_arc, y)
zip-set [] flows k y = refl
zip-set (a ∷ arcs) [] k y = refl
zip-set (a ∷ arcs) (x ∷ flows) zero y = refl
zip-set (a ∷ arcs) (x ∷ flows) (suc k) y = ap (λ ps. (a, x) ∷ ps) (zip-set arcs flows k y)

-- If one flow changes, the sum at a node gains the new flow and loses the old one where the node is that end of the arc.
pub flow_at-set : (end : Arc → ℕ) (arcs : List Arc) (flows : List ℕ) (k y v : ℕ) → length flows ≡ length arcs → k < length arcs
    → flow_at end arcs (set flows k y) v + cond (end (get_or arcs k no_arc) == v) (get_or flows k 0) 0 ≡ flow_at end arcs flows v + cond
    (end (get_or arcs k no_arc) == v) y 0
flow_at-set end arcs flows k y v same h =
    let f : Arc × ℕ → ℕ = λ p. cond (end p.0 == v) p.1 0 in
    let long : k < length (zip arcs flows) = rw length-zip (omega arith) in
    let old : f (get_or (zip arcs flows) k (no_arc, 0)) ≡ cond (end (get_or arcs k no_arc) == v) (get_or flows k 0) 0 =
    ap f (get_or-zip arcs flows k (no_arc, 0) h (omega arith)) in
    rw (← old, zip-set arcs flows k y) (sum_by-set f (zip arcs flows) k (get_or arcs k no_arc, y) (no_arc, 0) long)

-- Flows stay within the capacities when one of them changes to another that its arc can carry.
pub within-set : (arcs : List Arc) (flows : List ℕ) (k y : ℕ) → AreWithinCapacities arcs flows → y ≤ (get_or arcs k no_arc).cap
    → AreWithinCapacities arcs (set flows k y)
within-set [] [] k y w h = tt
within-set (a ∷ arcs) (x ∷ flows) zero y w h = (h, w.1)
within-set (a ∷ arcs) (x ∷ flows) (suc k) y w h = (w.0, within-set arcs flows k y w.1 h)
within-set arcs flows k y w h = absurd w

-- Each flow is within its arc's capacity.
pub within-at : (arcs : List Arc) (flows : List ℕ) (k : ℕ) → AreWithinCapacities arcs flows → get_or flows k 0 ≤ (get_or arcs k no_arc).cap
within-at [] [] k w = omega arith
within-at (a ∷ arcs) (x ∷ flows) zero w = w.0
within-at (a ∷ arcs) (x ∷ flows) (suc k) w = within-at arcs flows k w.1
within-at arcs flows k w = absurd w

-- The outflow or inflow of a node is at most the sum of all capacities.
pub flow_at-le : (end : Arc → ℕ) (arcs : List Arc) (flows : List ℕ) (v : ℕ) → AreWithinCapacities arcs flows → flow_at end arcs flows v ≤ capacity_sum arcs
flow_at-le end [] [] v w = omega arith
flow_at-le end (a ∷ arcs) (x ∷ flows) v w =
    let f : Arc × ℕ → ℕ = λ p. cond (end p.0 == v) p.1 0 in
    let g : Arc → ℕ = λ b. b.cap in
    omega (arith, w.0, part-le (end a == v) x, flow_at-le end arcs flows v w.1, sum_by-cons f (a, x) (zip arcs flows), sum_by-cons g a arcs)
flow_at-le end arcs flows v w = absurd w

-- The flow on an arc is part of the sum at its end.
pub flow_at-part : (end : Arc → ℕ) (arcs : List Arc) (flows : List ℕ) (k v : ℕ) → length flows ≡ length arcs → k < length arcs
    → cond (end (get_or arcs k no_arc) == v) (get_or flows k 0) 0 ≤ flow_at end arcs flows v
flow_at-part end arcs flows k v same h =
    let none : cond (end (get_or arcs k no_arc) == v) 0 0 ≤ 0 = part-le (end (get_or arcs k no_arc) == v) 0 in
    omega (arith, none, flow_at-set end arcs flows k 0 v same h)
