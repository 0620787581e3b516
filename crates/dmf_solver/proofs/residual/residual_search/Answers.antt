use Rattle.std.proofs.Common.{arith}
use Rattle.dmf_solver.proofs.pairs.ArcPairs.{ArePairs-by_arc}
use Rattle.dmf_solver.proofs.pairs.ResidualPairs.{by_residual_pair}
use Rattle.dmf_solver.proofs.residual.residual_search.Goals as goal

pub new-requires-clause-pairs : goal.new-requires-clause-pairs
new-requires-clause-pairs c =
    let s = c.args.state.now in
    let state = c.nodes.ensures.state in
    rw c.nodes.ensures.value (ArePairs-by_arc by_residual_pair s.network s.flows 0 state.network state.flow.within (omega arith))
