-- Draining an arc takes flow off it until no more than a limit is left. Each unit is taken off along a cycle, as flow decomposition
-- finds them (Ahuja, Magnanti and Orlin, Network Flows, section 3.5). The flow that reaches the sink comes back to the source over a
-- return link.
-- Public: a public contract says no more than this.
use Rattle.std.specs.Prelude.{ℕ, ◌≡◌, ◌+◌, ◌-◌, ◌*◌, ◌<◌, ◌≤◌, ◌==◌, ◌||◌, if◌then◌else◌, List, [], ◌∷◌, ◌++◌, length, nat_lt, pos, ◌-ℤ◌, ◌≤ℤ◌}
use Rattle.std.specs.List.{AllZip}
use Rattle.dmf_state.specs.declared.arc.Arc.{Arc}
use Rattle.dmf_path.specs.Step.{Step}
use Rattle.dmf_state.specs.Network.{Network, arc_number}
use Rattle.dmf_state.specs.Flow.{flow_on, outflow, inflow, IsFlow, flow_value}
use Rattle.dmf_path.specs.Path.{IsLeastPath, has_rank, bottleneck_up_to}

-- the step along arc number `j`, if the arc carries flow
abbrev pub carried : ℕ → Arc → ℕ → List Step
carried j arc flow =
    if nat_lt 0 flow then record { from = arc.tail; to = arc.head; rank = 2 * j; room = flow } ∷ [] else []

-- the steps along the arcs from number `j` on, in the order of their ranks
abbrev pub carried_from : ℕ → List Arc → List ℕ → List Step
carried_from j [] flows = []
carried_from j (arc ∷ arcs) [] = []
carried_from j (arc ∷ arcs) (flow ∷ flows) = carried j arc flow ++ carried_from (j + 1) arcs flows

-- the net inflow of the sink: the value of a flow, or 0 if that is negative
abbrev pub value_or_zero : Network → List ℕ → ℕ
value_or_zero n flows = outflow n.arcs flows n.source - inflow n.arcs flows n.source

-- The return link, which carries the value back from the sink to the source, if it is positive. It ranks after all arcs.
abbrev pub return_link : Network → List ℕ → List Step
return_link n flows =
    if nat_lt 0 (value_or_zero n flows) then
    record { from = n.sink; to = n.source; rank = 2 * length n.arcs + 2; room = value_or_zero n flows } ∷ []
    else []

-- the carrying steps of a flow: those along the arcs, and the return link
abbrev pub carrying_steps : Network → List ℕ → List Step
carrying_steps n flows = carried_from 1 n.arcs flows ++ return_link n flows

-- the flows of the arcs from number `i` on, less `amount` on arc number `j` and on each arc whose step the path has
abbrev pub lowered_from : ℕ → ℕ → ℕ → List Step → List ℕ → List ℕ
lowered_from i j amount path [] = []
lowered_from i j amount path (flow ∷ flows) =
    (flow - (if i == j || has_rank path (2 * i) then amount else 0)) ∷ lowered_from (i + 1) j amount path flows

-- the flows lowered on arc number `j` and along a path, by the least of the rooms on the path and of the flow on the arc above the
-- limit
abbrev pub lowered : ℕ → ℕ → List Step → List ℕ → List ℕ
lowered j limit path flows = lowered_from 1 j (bottleneck_up_to (flow_on flows j - limit) path) path flows

-- Lowering arc number `j` along these paths in turn, each the least path of carrying steps from its head to its tail, while
-- more than the limit flows on it, makes `flows` into `last`.
abbrev pub Lowers : Network → ℕ → ℕ → List ℕ → List (List Step) → List ℕ → Type 0
Lowers n j limit flows [] last = flows ≡ last
Lowers n j limit flows (path ∷ paths) last =
    (limit < flow_on flows j)
    × IsLeastPath (carrying_steps n flows) (arc_number n j).head (arc_number n j).tail path
    × Lowers n j limit (lowered j limit path flows) paths last

-- Draining arc number `j` to the limit makes `flows` into `last`.
pub record Drains (n : Network) (j limit : ℕ) (flows last : List ℕ) : Type 0 where
  pub paths : List (List Step)
  pub lowers : Lowers n j limit flows paths last
  pub within : flow_on last j ≤ limit

-- What draining takes off: no flow is more than before, the result is a flow, and its value is lower by at most this amount, the flow
-- that has to leave the drained arcs. If the amount is 0, no flow differs.
pub record TakesOff (n : Network) (amount : ℕ) (before after : List ℕ) : Type 0 where
  pub no_more : AllZip (λ x y. y ≤ x) before after
  pub flow : IsFlow n after
  pub value : (flow_value n before -ℤ pos amount) ≤ℤ flow_value n after
  pub untouched : amount ≡ 0 → after ≡ before
