-- The nodes to which residual paths of a maximum flow lead from the source are those that every minimum cut has.
use Rattle.std.proofs.Common.{ℕ, ◌≡◌, List, Bool, true, false, ap, sym, ◌∙◌, subst, arith, pos}
use Rattle.std.specs.List.Sorted.{IsStrictlyIncreasing}
use Rattle.std.proofs.lemmas.Bool.{both_ways}
use Rattle.std.proofs.lemmas.Int.{ints}
use Rattle.std.proofs.lemmas.List.Kept.{AllPairs-from_increasing}
use Rattle.dmf_node.specs.Node.{IsNode}
use Rattle.dmf_state.specs.Network.{Network, IsNetwork}
use Rattle.dmf_state.specs.Flow.{IsFlow, flow_value}
use Rattle.dmf_state.specs.Cut.{cut_capacity, IsInEveryMinimumCut}
use Rattle.dmf_state.specs.Side.{CutSide, has_node, IsSmallestSide}
use Rattle.dmf_path.specs.Search.{Searched}
use Rattle.dmf_solver.specs.ResidualNetwork.{residual_search}
use Rattle.dmf_solver.specs.Pairs.{IsReachedSide}
use Rattle.dmf_solver.proofs.pairs.NetworkPairs.{reached-residual}
use Rattle.dmf_path.specs.Path.{HasNoPath}
use Rattle.dmf_solver.specs.Residual.{residual_steps}
use Rattle.dmf_solver.proofs.cuts.Enclosing.{closed-from_stay}
use Rattle.dmf_solver.proofs.cuts.MaxFlowMinCut.{stay-from_capacity, AreReached, reached-capacity, reached-minimum_cut}
use Rattle.dmf_solver.proofs.cuts.Reached.{path-stays}
use Rattle.dmf_state.proofs.Ascending.{same-nodes}
use Rattle.dmf_solver.specs.Laws.{HasOneSmallestSide}

-- The ascending list of the reached nodes is the smallest side, and the value of the flow is its capacity. Every minimum cut has each
-- reached node, since the capacity is the value, so that no residual step leaves the cut. A node that every minimum cut has is reached.
pub IsSmallestSide-reached : (n : Network) (flows ids : List ℕ) (capacity : ℕ) → IsNetwork n → IsFlow n flows
    → HasNoPath (residual_steps n.arcs flows) n.source n.sink → AreReached n flows (has_node ids) → IsStrictlyIncreasing ids → pos capacity ≡ flow_value n flows
    → IsSmallestSide n (record { ids = ids; capacity = capacity })
IsSmallestSide-reached n flows ids capacity network flow none r increasing value =
    let same = reached-capacity n flows (has_node ids) network flow none r in
    let least = reached-minimum_cut n flows (has_node ids) network flow none r in
    let in_every : (v : ℕ) → has_node ids v ≡ true → IsInEveryMinimumCut n v = λ v inside other is.
    let p = r.reached v inside in
    let within = is.least (has_node ids) least.cut in
    let stay = stay-from_capacity n flows other network flow is.cut (omega (arith, ints, same, within)) in
    path-stays (residual_steps n.arcs flows) other n.source v p.0 (closed-from_stay other n.arcs flows stay) p.1 is.cut.source in
    record {
      ascending = increasing;
      in_every = λ v. (λ inside. (r.of_nodes v inside, in_every v inside), λ is. is.1 (has_node ids) least);
      least = least;
      capacity_is = omega (arith, ints, value, same);
    }

-- The side that a search for augmenting paths reaches has the nodes that residual paths reach.
pub reached-by_search : (n : Network) (flows : List ℕ) (search : Searched) (capacity : ℕ) (side : CutSide) → search ≡ residual_search n flows
    → IsReachedSide search capacity side → AreReached n flows (has_node side.ids)
reached-by_search n flows search capacity side same is =
    let nodes : search.nodes ≡ n.nodes = ap (λ (o : Searched). o.nodes) same in
    record {
      of_nodes = λ v inside. subst (λ last. IsNode last v) nodes ((is.nodes v).0 inside).0;
      reached = λ v inside. (reached-residual n flows search v same).0 ((is.nodes v).0 inside).1;
      every = λ v node path leads. (is.nodes v).1 (subst (λ last. IsNode last v) (sym nodes) node, (reached-residual n flows search v same).1 (path, leads));
    }

-- If it does not have the sink, no path leads there.
pub no_path-by_search : (n : Network) (flows : List ℕ) (has : ℕ → Bool) → IsNetwork n → AreReached n flows has → has n.sink ≡ false
    → HasNoPath (residual_steps n.arcs flows) n.source n.sink
no_path-by_search n flows has network r out path leads = both_ways (has n.sink) out (r.every n.sink network.sink path leads)

-- Then it is the smallest side.
pub IsSmallestSide-by_search : (n : Network) (flows : List ℕ) (search : Searched) (capacity : ℕ) (side : CutSide) → IsNetwork n → IsFlow n flows
    → HasNoPath (residual_steps n.arcs flows) n.source n.sink → search ≡ residual_search n flows → pos capacity ≡ flow_value n flows
    → IsReachedSide search capacity side → IsSmallestSide n side
IsSmallestSide-by_search n flows search capacity side network flow none same value is =
    IsSmallestSide-reached n flows side.ids side.capacity network flow none (reached-by_search n flows search capacity side same is) is.ascending
    (ap pos is.capacity_is ∙ value)

-- A network has one smallest side.
pub one-smallest_side : HasOneSmallestSide
one-smallest_side n side other is also =
    let same : side.ids ≡ other.ids = same-nodes side.ids other.ids (AllPairs-from_increasing side.ids is.ascending)
    (AllPairs-from_increasing other.ids also.ascending)
    (λ v inside. (also.in_every v).1 ((is.in_every v).0 inside))
    (λ v inside. (is.in_every v).1 ((also.in_every v).0 inside)) in
    let capacity : side.capacity ≡ other.capacity = is.capacity_is ∙ ap (λ ids. cut_capacity n.arcs (has_node ids)) same ∙ sym also.capacity_is in
    λ i. record { ids = same i; capacity = capacity i }
