-- Looking for the first arc over capacity.
use Rattle.std.proofs.Common.{ℕ, ◌≡◌, ◌<◌, ◌≤◌, List, [], ◌∷◌, length, get_or, arith, suc}
use Rattle.dmf_state.specs.declared.arc.Arc.{Arc}
use Rattle.dmf_state.specs.Flow.{AreWithinCapacities}
use Rattle.dmf_state.specs.Arc.{no_arc}

-- The first `i` flows are within the capacities.
abbrev pub AreWithinBelow : ℕ → List Arc → List ℕ → Type 0
AreWithinBelow i arcs flows = (k : ℕ) → k < i → get_or flows k 0 ≤ (get_or arcs k no_arc).cap

-- Once that holds of all, the flows are within the capacities.
pub within-from_below : (arcs : List Arc) (flows : List ℕ) → length flows ≡ length arcs → AreWithinBelow (length arcs) arcs flows
    → AreWithinCapacities arcs flows
within-from_below [] [] same below = tt
within-from_below [] (x ∷ flows) same below = absurd (omega (arith, same))
within-from_below (a ∷ arcs) [] same below = absurd (omega (arith, same))
within-from_below (a ∷ arcs) (x ∷ flows) same below =
    (below 0 (omega arith), within-from_below arcs flows (omega (arith, same)) (λ k h. below (suc k) (omega (arith, h))))
