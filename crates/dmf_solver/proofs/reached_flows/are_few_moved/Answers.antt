use Rattle.std.proofs.Common.{ℕ, ◌<◌, List, length, ap, arith}
use Rattle.dmf_state.proofs.Moving.{flows-long}
use Rattle.dmf_solver.specs.Pairs.{reached_flows}
use Rattle.dmf_solver.proofs.reached_flows.are_few_moved.Goals as goal

pub flow-requires : goal.flow-requires
flow-requires c =
    let s = c.args.state.now in
    let reached : List ℕ = reached_flows s c.args.solved.now.search in
    let long = flows-long s reached c.flows-before.ensures.state c.requires.state in
    let below : c.loop-k.k < length reached = omega (arith, long, ap length c.flows-before.ensures.value, c.loop-k-test.true) in
    below
