use Rattle.dmf_state.proofs.Changing.{within-at}
use Rattle.dmf_solver.proofs.pairs.ArcPairs.{pair-at, pair-past}
use Rattle.dmf_solver.proofs.pairs.ResidualPairs.{by_residual_pair}
use Rattle.dmf_solver.proofs.residual.ResidualPairsPairs.pair.Goals as goal

pub residual_pair-requires : goal.residual_pair-requires
residual_pair-requires c =
    let s = c.args.self.now.state.now in
    let at = c.in-Some.ensures.at in
    rw (at.arc_is, at.flow_is) (within-at s.network.arcs s.flows c.args.k c.arc_at.ensures.state.flow.within)

pub returns-in-Some : goal.returns-in-Some
returns-in-Some c = rw c.residual_pair.ensures (pair-at by_residual_pair c.args.self.now.state.now c.arc_at.ensures.state _ c.args.k _ c.in-Some.ensures.at)

pub returns-in-None : goal.returns-in-None
returns-in-None c =
    rw c.closed_return.ensures (pair-past by_residual_pair c.args.self.now.state.now c.arc_at.ensures.state _ c.args.k c.requires c.in-None.ensures.at)
