use Rattle.std.proofs.Common.{◌∙◌, ap, length}
use Rattle.dmf_state.proofs.Moving.{flows-long}
use Rattle.dmf_solver.specs.Pairs.{reached_flows}
use Rattle.dmf_solver.proofs.reached_flows.into_moves.Goals as goal

pub list_all_moves-requires : goal.list_all_moves-requires
list_all_moves-requires c =
    let s = c.args.state.now in
    flows-long s (reached_flows s c.args.solved.search) c.requires.state c.requires.solved.state

pub list_all_moves-requires-2 : goal.list_all_moves-requires-2
list_all_moves-requires-2 c =
    let s = c.args.state.now in
    ap length c.in_ok-flows.ensures ∙ flows-long s (reached_flows s c.args.solved.search) c.requires.state c.requires.solved.state
