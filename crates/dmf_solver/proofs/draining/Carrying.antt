-- The flow on an arc comes back to the arc's tail, along arcs that carry flow, and over the return link from the sink to the source if
-- the value is positive.
use Rattle.std.proofs.Common.{ℕ, ◌≡◌, ◌<◌, List, get_or, length, Bool, true, false, ap, sym, ◌∙◌, arith, ⊎_elim, pos}
use Rattle.std.proofs.Common.{◌≤ℤ◌, ◌<ℤ◌}
use Rattle.std.specs.List.{Contains}
use Rattle.std.proofs.lemmas.Bool.{cases_Bool, true_from_ne_false, both_ways}
use Rattle.std.proofs.lemmas.Int.{ints, by_lt_z}
use Rattle.std.proofs.lemmas.Slice.Zip.{AllZip-long}
use Rattle.dmf_state.specs.declared.arc.Arc.{Arc}
use Rattle.dmf_path.specs.Step.{Step}
use Rattle.dmf_state.specs.Network.{Network, IsNetwork}
use Rattle.dmf_state.specs.Flow.{IsFlow, flow_value}
use Rattle.dmf_path.specs.Path.{HasNoPath}
use Rattle.dmf_state.specs.Arc.{no_arc}
use Rattle.dmf_solver.proofs.cuts.Crossing.{entering, value-across, value-across_back, none-across, none-across_both, across-none, across-at}
use Rattle.dmf_solver.proofs.cuts.Reached.{IsClosed, ArriveAtNodes, path-not_none}

-- No flow leaves the set: if an arc from a node of the set carries flow, the set has the arc's head.
abbrev pub KeepsFlow : List Arc → List ℕ → (ℕ → Bool) → Type 0
KeepsFlow arcs flows has = (k : ℕ) → k < length arcs → 0 < get_or flows k 0 → has (get_or arcs k no_arc).tail ≡ true → has (get_or arcs k no_arc).head ≡ true

-- No flow enters a set that no flow leaves, by an arc or over the return link, if the value is not negative.
pub keeps-entering : (n : Network) (flows : List ℕ) (has : ℕ → Bool) → IsNetwork n → IsFlow n flows → pos 0 ≤ℤ flow_value n flows → KeepsFlow n.arcs flows has
    → (pos 0 <ℤ flow_value n flows → has n.sink ≡ true → has n.source ≡ true) → entering n.arcs flows has ≡ 0
keeps-entering n flows has network flow from_zero keeps returns =
    let none = across-none (λ a. a.tail) (λ a. a.head) (λ p. p.1) has n.arcs flows keeps in
    ⊎_elim
    (λ (source : has n.source ≡ true). ⊎_elim
    (λ (sink : has n.sink ≡ true). omega (arith, none, none-across_both n flows has network flow.conserved source sink))
    (λ (sink : has n.sink ≡ false). omega (arith, ints, none, from_zero, value-across n flows has network flow.conserved source sink))
    (cases_Bool (has n.sink)))
    (λ (source : has n.source ≡ false). ⊎_elim
    (λ (sink : has n.sink ≡ true). by_lt_z (pos 0) (flow_value n flows)
    (λ (positive : pos 0 <ℤ flow_value n flows). absurd (both_ways (has n.source) source (returns positive sink)))
    (λ (not_positive : flow_value n flows ≤ℤ pos 0). omega (arith, ints, none, not_positive, value-across_back n flows has network flow.conserved source sink)))
    (λ (sink : has n.sink ≡ false). omega (arith, none, none-across n flows has network flow.conserved source sink))
    (cases_Bool (has n.sink)))
    (cases_Bool (has n.source))

-- If no flow leaves a set, by an arc or over the return link, and an arc that carries flow has its head in the set, its tail is in the
-- set too.
pub keeps-tail : (n : Network) (flows : List ℕ) (has : ℕ → Bool) (k : ℕ) → IsNetwork n → IsFlow n flows → pos 0 ≤ℤ flow_value n flows
    → KeepsFlow n.arcs flows has → (pos 0 <ℤ flow_value n flows → has n.sink ≡ true → has n.source ≡ true) → k < length n.arcs → 0 < get_or flows k 0
    → has (get_or n.arcs k no_arc).head ≡ true → has (get_or n.arcs k no_arc).tail ≡ true
keeps-tail n flows has k network flow from_zero keeps returns h some head =
    true_from_ne_false (has (get_or n.arcs k no_arc).tail) (λ tail.
    let same = AllZip-long _ n.arcs flows flow.within in
    let part = across-at (λ a. a.head) (λ a. a.tail) (λ p. p.1) has n.arcs flows k same h head tail in
    omega (arith, part, some, keeps-entering n flows has network flow from_zero keeps returns))

-- The steps have one from the tail to the head of each arc that carries flow, and one from the sink to the source if the value is
-- positive.
pub record CarryFlow (n : Network) (flows : List ℕ) (steps : List Step) : Type 0 where
  pub arrive : ArriveAtNodes n.nodes steps
  pub along : (k : ℕ) → k < length n.arcs → 0 < get_or flows k 0 → (s : Step) × Contains steps s × (s.from ≡ (get_or n.arcs k no_arc).tail)
      × (s.to ≡ (get_or n.arcs k no_arc).head)
  pub returns : pos 0 <ℤ flow_value n flows → (s : Step) × Contains steps s × (s.from ≡ n.sink) × (s.to ≡ n.source)

-- if no step leaves a set, and the set has the tail of a step, it has the head of the step
closed_step : (steps : List Step) (has : ℕ → Bool) (a b : ℕ) → IsClosed steps has → (s : Step) × Contains steps s × (s.from ≡ a) × (s.to ≡ b) → has a ≡ true
    → has b ≡ true
closed_step steps has a b closed s inside = sym (ap has s.3) ∙ closed s.0 s.1 (ap has s.2 ∙ inside)

-- So it is absurd that no path of such steps leads from the head of an arc that carries flow to its tail.
pub path_back-not_none : (n : Network) (flows : List ℕ) (steps : List Step) (k : ℕ) → IsNetwork n → IsFlow n flows → pos 0 ≤ℤ flow_value n flows
    → CarryFlow n flows steps → k < length n.arcs → 0 < get_or flows k 0 → ¬ HasNoPath steps (get_or n.arcs k no_arc).head (get_or n.arcs k no_arc).tail
path_back-not_none n flows steps k network flow from_zero carry h some =
    path-not_none steps n.nodes (get_or n.arcs k no_arc).head (get_or n.arcs k no_arc).tail carry.arrive (network.arcs k no_arc h).head
    (λ has head closed.
    keeps-tail n flows has k network flow from_zero
    (λ i l positive. closed_step steps has (get_or n.arcs i no_arc).tail (get_or n.arcs i no_arc).head closed (carry.along i l positive))
    (λ positive. closed_step steps has n.sink n.source closed (carry.returns positive))
    h some head)
