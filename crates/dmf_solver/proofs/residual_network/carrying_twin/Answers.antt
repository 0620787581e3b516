use Rattle.std.proofs.Common.{ℕ, ap, map, refl, subst, sym, ◌∙◌}
use Rattle.std.proofs.lemmas.Result.{IfOk-weaker}
use Rattle.dmf_links.specs.Pair.{without_room, ArePairs}
use Rattle.dmf_path.specs.Search.{Searched}
use Rattle.dmf_solver.specs.CarryingNetwork.{carrying_pairs}
use Rattle.dmf_solver.proofs.pairs.CarryingPairs.{by_carrying_pair, ArePairs-carrying}
use Rattle.dmf_solver.specs.CarryingNetwork.{return_pair}
use Rattle.dmf_solver.specs.ResidualNetwork.{closed_return}
use Rattle.dmf_solver.proofs.pairs.ArcPairs.{same-ends}
use Rattle.dmf_solver.proofs.pairs.ResidualPairs.{by_residual_pair}
use Rattle.dmf_solver.proofs.residual_network.carrying_twin.Goals as goal

pub twin-requires-clause-pairs : goal.twin-requires-clause-pairs
twin-requires-clause-pairs c =
    let s = c.args.state.now in
    subst (λ (nodes : ℕ). ArePairs nodes (carrying_pairs s.network s.flows)) (sym (ap (λ (x : Searched). x.nodes) c.requires.residual))
    (ArePairs-carrying s.network s.flows c.requires.state.network c.requires.state.flow.within)

pub twin-requires-clause-same_ends : goal.twin-requires-clause-same_ends
twin-requires-clause-same_ends c =
    let s = c.args.state.now in
    same-ends by_carrying_pair by_residual_pair s.network.arcs s.flows (return_pair s.network s.flows) (closed_return s.network) refl
    ∙ sym (ap (λ (x : Searched). map without_room x.pairs) c.requires.residual)

pub returns : goal.returns
returns c =
    IfOk-weaker c.twin.result _ _ (λ (search : Searched) is. record {
      nodes_are = ap (λ (x : Searched). x.nodes) is ∙ ap (λ (x : Searched). x.nodes) c.requires.residual;
      pairs_are = ap (λ (x : Searched). x.pairs) is;
      takes_none_back = ap (λ (x : Searched). x.takes_back) is;
    })
    c.twin.ensures
