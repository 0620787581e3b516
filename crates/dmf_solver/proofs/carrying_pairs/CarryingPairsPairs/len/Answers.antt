use Rattle.std.proofs.Common.{arith, ap, length}
use Rattle.std.proofs.lemmas.Slice.Zip.{AllZip-long}
use Rattle.dmf_solver.specs.CarryingNetwork.{return_pair}
use Rattle.dmf_solver.proofs.pairs.ArcPairs.{length-with_last}
use Rattle.dmf_solver.proofs.pairs.CarryingPairs.{by_carrying_pair}
use Rattle.dmf_solver.proofs.carrying_pairs.CarryingPairsPairs.len.Goals as goal

pub returns : goal.returns
returns c =
    let s = c.args.self.now.state.now in
    let long = AllZip-long _ s.network.arcs s.flows c.arcs.ensures.state.flow.within in
    omega (arith, length-with_last by_carrying_pair s.network.arcs s.flows (return_pair s.network s.flows) long, ap length c.arcs.ensures.value)
