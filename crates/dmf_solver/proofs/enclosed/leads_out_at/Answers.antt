use Rattle.std.proofs.Common.{length, ap, arith}
use Rattle.std.proofs.lemmas.Slice.Zip.{AllZip-long}
use Rattle.dmf_solver.proofs.enclosed.leads_out_at.Goals as goal

pub bounds-flows-k : goal.bounds-flows-k
bounds-flows-k c =
    let s = c.args.state.now in
    omega (arith, c.requires.within, ap length c.flows.ensures.value, AllZip-long _ s.network.arcs s.flows c.flows.ensures.state.flow.within)
