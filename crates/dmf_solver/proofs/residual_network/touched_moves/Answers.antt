use Rattle.dmf_path.specs.Search.{indices_of}
use Rattle.dmf_state.proofs.Moving.{flows-long}
use Rattle.dmf_solver.specs.Pairs.{reached_flows}
use Rattle.dmf_solver.proofs.pairs.Untouched.{touched-cover}
use Rattle.dmf_solver.proofs.residual_network.touched_moves.Goals as goal

pub list_moves-requires-clause-one_each : goal.list_moves-requires-clause-one_each
list_moves-requires-clause-one_each c =
    let s = c.args.state.now in
    flows-long s (reached_flows s c.args.solved.now.search) c.arcs.ensures.state c.requires.state

pub list_moves-requires-clause-others_stay : goal.list_moves-requires-clause-others_stay
list_moves-requires-clause-others_stay c =
    touched-cover c.args.state.now c.args.solved.now (indices_of c.indices-indices.result) c.arcs.ensures.state c.requires
    (rw c.arcs.ensures.value at c.indices-indices.ensures)
