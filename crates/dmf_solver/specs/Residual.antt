-- The residual network of a flow, as the textbooks have it (Ahuja, Magnanti and Orlin, Network Flows, section 2.4),
-- as a list of steps.
-- Public: a public contract says no more than this.
use Rattle.std.specs.Prelude.{ℕ, ◌+◌, ◌-◌, ◌*◌, if◌then◌else◌, List, [], ◌∷◌, ◌++◌, nat_lt}
use Rattle.dmf_state.specs.declared.arc.Arc.{Arc}
use Rattle.dmf_path.specs.Step.{Step}
use Rattle.dmf_path.specs.Path.{has_rank, bottleneck}

-- the step along arc number `j`, if the arc can carry more flow
abbrev pub forward_step : ℕ → Arc → ℕ → List Step
forward_step j arc flow =
    if nat_lt flow arc.cap then record { from = arc.tail; to = arc.head; rank = 2 * j; room = arc.cap - flow } ∷ [] else []

-- the step against arc number `j`, if the arc carries flow
abbrev pub backward_step : ℕ → Arc → ℕ → List Step
backward_step j arc flow =
    if nat_lt 0 flow then record { from = arc.head; to = arc.tail; rank = 2 * j + 1; room = flow } ∷ [] else []

-- the residual steps of the arcs from number `j` on, in the order of their ranks
abbrev pub residual_from : ℕ → List Arc → List ℕ → List Step
residual_from j [] flows = []
residual_from j (arc ∷ arcs) [] = []
residual_from j (arc ∷ arcs) (flow ∷ flows) = forward_step j arc flow ++ backward_step j arc flow ++ residual_from (j + 1) arcs flows

-- the residual steps of a flow
abbrev pub residual_steps : List Arc → List ℕ → List Step
residual_steps arcs flows = residual_from 1 arcs flows

-- the flows of the arcs from number `j` on, plus `amount` if the path has the arc's forward step, and minus `amount` if it has the
-- backward step
abbrev pub augmented_from : ℕ → ℕ → List Step → List ℕ → List ℕ
augmented_from j amount path [] = []
augmented_from j amount path (flow ∷ flows) =
    (flow + (if has_rank path (2 * j) then amount else 0) - (if has_rank path (2 * j + 1) then amount else 0))
    ∷ augmented_from (j + 1) amount path flows

-- the flows augmented along a path by the bottleneck on it
abbrev pub augmented : List Step → List ℕ → List ℕ
augmented path flows = augmented_from 1 (bottleneck path) path flows
