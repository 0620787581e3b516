use Rattle.dmf_solver.proofs.cuts.GreatestFlow.{greatest-from_no_path}
use Rattle.dmf_solver.proofs.enclosed.is_saturated_cut.Goals as goal

pub returns : goal.returns
returns c = λ cut.
    let s = c.args.state.now in
    let state = c.nodes.ensures.state in
    greatest-from_no_path s.network s.flows state.network state.flow (c.parts_source_and_sink.ensures cut)
