-- The pairs of the arcs, and the pair of the return link after them. The return link has no room, so it gives no step, and no path uses it.
use Rattle.std.proofs.Common.{ℕ, ◌≡◌, ◌+◌, ◌*◌, ◌≤◌, ◌↔◌, true, false, List, [], ◌∷◌, ◌++◌, length, refl, ap, sym, ◌∙◌, subst, arith, Option}
use Rattle.std.proofs.lemmas.Bool.{false_from_ne_true}
use Rattle.std.proofs.lemmas.Slice.Zip.{AllZip-long}
use Rattle.dmf_links.specs.declared.pair.Pair.{Pair}
use Rattle.dmf_path.specs.Step.{Step}
use Rattle.dmf_path.specs.Path.{has_rank, IsPath, IsReachable, IsLeastPath, HasNoPath, bottleneck}
use Rattle.dmf_path.specs.Pair.{pair_steps, steps_from, steps_of, pushed_pair, pushed_from, pushed_pairs}
use Rattle.dmf_path.specs.Search.{Searched}
use Rattle.dmf_path.proofs.paths.Loops.{AreWithoutLoops, least-without_loops, no_path-without_loops, reachable-without_loops, reachable-within}
use Rattle.dmf_state.specs.declared.arc.Arc.{Arc}
use Rattle.dmf_state.specs.Flow.{AreWithinCapacities}
use Rattle.dmf_state.specs.Network.{Network}
use Rattle.dmf_solver.specs.Residual.{residual_steps, augmented}
use Rattle.dmf_solver.specs.ResidualNetwork.{residual_pairs, closed_return, network_pairs, residual_search}
use Rattle.dmf_solver.proofs.pairs.ArcPairs.{length-pairs, length-with_last}
use Rattle.dmf_solver.proofs.pairs.ResidualPairs.{by_residual_pair, residual-without_loops, residual_pairs-augmented}
use Rattle.dmf_solver.proofs.solving.Augmenting.{step-of_least}
use Rattle.dmf_solver.proofs.solving.ResidualSteps.{along, against, residual-contained}

-- There is a pair for each arc, and one more.
pub length-network_pairs : (n : Network) (flows : List ℕ) → length flows ≡ length n.arcs → length (network_pairs n flows) ≡ length n.arcs + 1
length-network_pairs n flows same = length-with_last by_residual_pair n.arcs flows (closed_return n) same

-- ---- the return link is closed

-- It gives no step,
steps-closed : (n : Network) (j : ℕ) (pairs : List (Option Pair)) → steps_from j (pairs ++ closed_return n ∷ []) ≡ steps_from j pairs
steps-closed n j [] = refl
steps-closed n j (p ∷ pairs) = ap (λ (steps : List Step). pair_steps j p ++ steps) (steps-closed n (j + 1) pairs)

-- so the steps are those of the arcs' pairs.
pub network-steps : (n : Network) (flows : List ℕ) → steps_of (network_pairs n flows) ≡ steps_of (residual_pairs n.arcs flows)
network-steps n flows = steps-closed n 1 (residual_pairs n.arcs flows)

-- so the steps of all pairs are the residual steps, except for self loops;
pub network-without_loops : (n : Network) (flows : List ℕ) → AreWithoutLoops (residual_steps n.arcs flows) (steps_of (network_pairs n flows))
network-without_loops n flows =
    subst (AreWithoutLoops (residual_steps n.arcs flows)) (sym (network-steps n flows)) (residual-without_loops n.arcs flows)

-- so the least path of the search is the least residual one,
pub search-least : (n : Network) (flows : List ℕ) (path : List Step) (search : Searched) → search ≡ residual_search n flows
    → IsLeastPath (steps_of search.pairs) search.start search.goal path → IsLeastPath (residual_steps n.arcs flows) n.source n.sink path
search-least n flows path search same least =
    least-without_loops (residual_steps n.arcs flows) (steps_of (network_pairs n flows)) n.source n.sink path (network-without_loops n flows) (rw same at least)

-- and if the search has no path, there is no residual one;
pub search-no_path : (n : Network) (flows : List ℕ) (search : Searched) → search ≡ residual_search n flows
    → HasNoPath (steps_of search.pairs) search.start search.goal → HasNoPath (residual_steps n.arcs flows) n.source n.sink
search-no_path n flows search same none =
    no_path-without_loops (residual_steps n.arcs flows) (steps_of (network_pairs n flows)) n.source n.sink (network-without_loops n flows) (rw same at none)

-- and if the search reaches a node, residual steps reach it.
pub reached-residual : (n : Network) (flows : List ℕ) (search : Searched) (v : ℕ) → search ≡ residual_search n flows
    → IsReachable (steps_of search.pairs) search.start v ↔ IsReachable (residual_steps n.arcs flows) n.source v
reached-residual n flows search v same =
    let fewer = network-without_loops n flows in
    rw same (
      reachable-within (residual_steps n.arcs flows) (steps_of (network_pairs n flows)) n.source v fewer,
      reachable-without_loops (residual_steps n.arcs flows) (steps_of (network_pairs n flows)) n.source v fewer,
    )

-- A path has none of its ranks,
past-unranked : (arcs : List Arc) (flows : List ℕ) (a b rank : ℕ) (path : List Step) → IsPath (residual_steps arcs flows) a b path
    → 2 * (1 + length arcs) ≤ rank → has_rank path rank ≡ false
past-unranked arcs flows a b rank path leads past = false_from_ne_true (has_rank path rank) (λ used.
    let step = step-of_least (residual_steps arcs flows) a b rank path leads used in
    elim (residual-contained 1 arcs flows step.step step.listed) [
      | along k is room some ↦ omega (arith, past, is.within, is.rank_is, step.rank_is)
      | against k is room some ↦ omega (arith, past, is.within, is.rank_is, step.rank_is)
    ])

-- and a push along a path leaves the pair as it is.
pushed-closed : (n : Network) (amount j i : ℕ) (path : List Step) (pairs : List (Option Pair)) → i ≡ j + length pairs → has_rank path (2 * i) ≡ false
    → has_rank path (2 * i + 1) ≡ false
    → pushed_from true j amount path (pairs ++ closed_return n ∷ []) ≡ pushed_from true j amount path pairs ++ closed_return n ∷ []
pushed-closed n amount j i path [] past ahead behind = let place : j ≡ i = omega (arith, past) in rw (place, ahead, behind) refl
pushed-closed n amount j i path (p ∷ pairs) past ahead behind =
    ap (λ (rest : List (Option Pair)). pushed_pair true j amount path p ∷ rest)
    (pushed-closed n amount (j + 1) i path pairs (omega (arith, past)) ahead behind)

-- The pairs of the augmented flows are the pairs of the flows, pushed along the path by the bottleneck on it.
pub network_pairs-augmented : (n : Network) (flows : List ℕ) (a b : ℕ) (path : List Step) → AreWithinCapacities n.arcs flows
    → IsPath (residual_steps n.arcs flows) a b path
    → network_pairs n (augmented path flows) ≡ pushed_pairs true (bottleneck path) path (network_pairs n flows)
network_pairs-augmented n flows a b path within leads =
    let pairs = residual_pairs n.arcs flows in
    let i : ℕ = 1 + length n.arcs in
    let long = length-pairs by_residual_pair n.arcs flows (AllZip-long _ n.arcs flows within) in
    let ahead = past-unranked n.arcs flows a b (2 * i) path leads (omega arith) in
    let behind = past-unranked n.arcs flows a b (2 * i + 1) path leads (omega arith) in
    ap (λ (made : List (Option Pair)). made ++ closed_return n ∷ []) (residual_pairs-augmented n.arcs flows a b path within leads)
    ∙ sym (pushed-closed n (bottleneck path) 1 i path pairs (omega (arith, long)) ahead behind)
