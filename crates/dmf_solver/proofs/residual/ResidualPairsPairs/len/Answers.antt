use Rattle.std.proofs.Common.{arith, ap, length}
use Rattle.std.proofs.lemmas.Slice.Zip.{AllZip-long}
use Rattle.dmf_solver.proofs.pairs.NetworkPairs.{length-network_pairs}
use Rattle.dmf_solver.proofs.residual.ResidualPairsPairs.len.Goals as goal

pub returns : goal.returns
returns c =
    let s = c.args.self.now.state.now in
    let long = AllZip-long _ s.network.arcs s.flows c.arcs.ensures.state.flow.within in
    omega (arith, length-network_pairs s.network s.flows long, ap length c.arcs.ensures.value)
