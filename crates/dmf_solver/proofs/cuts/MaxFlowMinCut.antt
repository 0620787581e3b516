-- The theorem that the greatest value of a flow is the least capacity of a cut.
use Rattle.std.proofs.Common.{ℕ, ◌≡◌, ◌+◌, ◌-◌, ◌≤◌, ◌&&◌, List, [], ◌∷◌, Bool, true, false, not, cond, refl, arith, pos, ◌≤ℤ◌}
use Rattle.std.specs.List.{zip}
use Rattle.std.proofs.lemmas.Bool.{true_from_ne_false, false_from_ne_true}
use Rattle.std.proofs.lemmas.Int.{ints}
use Rattle.std.proofs.lemmas.List.Sums.{sum_by-cons}
use Rattle.std.proofs.lemmas.Slice.Zip.{AllZip-long}
use Rattle.dmf_state.specs.declared.arc.Arc.{Arc}
use Rattle.dmf_state.specs.Network.{Network, IsNetwork}
use Rattle.dmf_state.specs.Flow.{AreWithinCapacities, IsFlow, flow_value}
use Rattle.dmf_solver.specs.Greatest.{IsGreatest}
use Rattle.dmf_state.specs.Cut.{IsCut, cut_capacity, IsMinimumCut}
use Rattle.dmf_path.specs.Path.{HasNoPath}
use Rattle.dmf_solver.specs.Residual.{residual_steps}
use Rattle.dmf_solver.proofs.cuts.Crossing.{across, leaving, across-none, across-at, value-across}
use Rattle.dmf_solver.proofs.cuts.Enclosing.{AllStay, stay-from_closed}
use Rattle.dmf_solver.proofs.cuts.Reached.{IsClosed, ArriveAtNodes, AreReachedFrom, reached_from-closed}
use Rattle.dmf_solver.proofs.solving.ResidualSteps.{IsStep-residual, residual-contained}

-- ---- any flow and any cut

-- what more an arc could carry
abbrev left_on : Arc × ℕ → ℕ
left_on p = p.0.cap - p.1

-- what more could leave a set
abbrev spare : List Arc → List ℕ → (ℕ → Bool) → ℕ
spare arcs flows has = across (λ arc. arc.tail) (λ arc. arc.head) left_on arcs flows has

parts-whole : (b : Bool) (x y : ℕ) → x ≤ y → cond b x 0 + cond b (y - x) 0 ≡ cond b y 0
parts-whole true x y h = omega (arith, h)
parts-whole false x y h = omega arith

-- The flow that leaves a set and what more could leave it are the capacity of the arcs that leave it.
leaving-spare : (arcs : List Arc) (flows : List ℕ) (has : ℕ → Bool) → AreWithinCapacities arcs flows
    → leaving arcs flows has + spare arcs flows has ≡ cut_capacity arcs has
leaving-spare [] [] has within = refl
leaving-spare [] (flow ∷ flows) has within = absurd within
leaving-spare (arc ∷ arcs) [] has within = absurd within
leaving-spare (arc ∷ arcs) (flow ∷ flows) has within =
    let part : (Arc × ℕ → ℕ) → Arc × ℕ → ℕ = λ amount p. cond (has p.0.tail && not (has p.0.head)) (amount p) 0 in
    let most : Arc → ℕ = λ a. cond (has a.tail && not (has a.head)) a.cap 0 in
    let flows_sum = sum_by-cons (part (λ p. p.1)) (arc, flow) (zip arcs flows) in
    let spare_sum = sum_by-cons (part left_on) (arc, flow) (zip arcs flows) in
    let here = parts-whole (has arc.tail && not (has arc.head)) flow arc.cap within.0 in
    omega (arith, here, leaving-spare arcs flows has within.1, flows_sum, spare_sum, sum_by-cons most arc arcs)

-- The flow that leaves a set is at most the capacity of the arcs that leave it.
pub leaving-le_capacity : (arcs : List Arc) (flows : List ℕ) (has : ℕ → Bool) → AreWithinCapacities arcs flows → leaving arcs flows has ≤ cut_capacity arcs has
leaving-le_capacity arcs flows has within = omega (arith, leaving-spare arcs flows has within)

-- No flow has a value above the capacity of a cut.
pub value-le_capacity : (n : Network) (flows : List ℕ) (has : ℕ → Bool) → IsNetwork n → IsFlow n flows → IsCut n has
    → flow_value n flows ≤ℤ pos (cut_capacity n.arcs has)
value-le_capacity n flows has network flow cut =
    let across = value-across n flows has network flow.conserved cut.source cut.sink in
    omega (arith, ints, across, leaving-le_capacity n.arcs flows has flow.within)

-- ---- a flow and a cut of the same size

module _ (n : Network) (flows : List ℕ) (has : ℕ → Bool) (network : IsNetwork n) (flow : IsFlow n flows) (cut : IsCut n has) where
  -- The capacity of a cut that no residual step leaves is the value of the flow.
  stay-capacity : AllStay has n.arcs flows → pos (cut_capacity n.arcs has) ≡ flow_value n flows
  stay-capacity stay =
      let none = across-none (λ a. a.tail) (λ a. a.head) left_on has n.arcs flows (λ k h left. (stay k h).0 (omega (arith, left))) in
      let empty = across-none (λ a. a.head) (λ a. a.tail) (λ p. p.1) has n.arcs flows (λ k h. (stay k h).1) in
      omega (arith, ints, value-across n flows has network flow.conserved cut.source cut.sink, leaving-spare n.arcs flows has flow.within, none, empty)

  -- No residual step leaves a cut whose capacity is at most the value of the flow.
  pub stay-from_capacity : pos (cut_capacity n.arcs has) ≤ℤ flow_value n flows → AllStay has n.arcs flows
  stay-from_capacity within k h =
      let same = AllZip-long _ n.arcs flows flow.within in
      let net = value-across n flows has network flow.conserved cut.source cut.sink in
      let whole = leaving-spare n.arcs flows has flow.within in (
        λ more tail. true_from_ne_false _ (λ out.
            let part = across-at (λ a. a.tail) (λ a. a.head) left_on has n.arcs flows k same h tail out in
            omega (arith, ints, net, whole, within, more, part)),
        λ some head. true_from_ne_false _ (λ out.
            let part = across-at (λ a. a.head) (λ a. a.tail) (λ p. p.1) has n.arcs flows k same h head out in
            omega (arith, ints, net, whole, within, some, part)),
      )

-- ---- the nodes that a residual path leads to

-- The set has just the nodes to which a path of residual steps leads from the source.
abbrev pub AreReached : Network → List ℕ → (ℕ → Bool) → Type 0
AreReached n flows has = AreReachedFrom (residual_steps n.arcs flows) n.nodes n.source has

-- The set has just these nodes, and the sink is not one of them.
module _ (n : Network) (flows : List ℕ) (has : ℕ → Bool) (network : IsNetwork n) (flow : IsFlow n flows)
    (none : HasNoPath (residual_steps n.arcs flows) n.source n.sink) (r : AreReached n flows has) where
  -- They are a cut,
  pub reached-cut : IsCut n has
  reached-cut = record {
    of_nodes = r.of_nodes;
    source = r.every n.source network.source [] refl;
    sink = false_from_ne_true (has n.sink) (λ inside. let p = r.reached n.sink inside in none p.0 p.1);
  }

  -- whose capacity is the value of the flow.
  pub reached-capacity : pos (cut_capacity n.arcs has) ≡ flow_value n flows
  reached-capacity =
      let arrive : ArriveAtNodes n.nodes (residual_steps n.arcs flows) =
      λ s c. (IsStep-residual n.nodes 1 n.arcs flows s network.arcs (residual-contained 1 n.arcs flows s c)).1 in
      let closed : IsClosed (residual_steps n.arcs flows) has = reached_from-closed (residual_steps n.arcs flows) n.nodes n.source has arrive r in
      stay-capacity n flows has network flow reached-cut
      (stay-from_closed has n.arcs flows (AllZip-long _ n.arcs flows flow.within) closed)

  -- So the flow is greatest,
  pub reached-greatest : IsGreatest n flows
  reached-greatest = record {
    flow = flow;
    none_larger = λ other is. omega (arith, ints, reached-capacity, value-le_capacity n other has network is reached-cut);
  }

  -- and the cut is a minimum cut.
  pub reached-minimum_cut : IsMinimumCut n has
  reached-minimum_cut = record {
    cut = reached-cut;
    least = λ other is. omega (arith, ints, reached-capacity, value-le_capacity n flows other network flow is);
  }
