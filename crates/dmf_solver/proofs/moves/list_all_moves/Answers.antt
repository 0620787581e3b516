use Rattle.std.proofs.Common.{arith, length}
use Rattle.dmf_path.proofs.pairs.Covering.{covers-below}
use Rattle.dmf_solver.proofs.moves.list_all_moves.Goals as goal

pub list_moves-requires-clause-others_stay : goal.list_moves-requires-clause-others_stay
list_moves-requires-clause-others_stay g c = record {
  count = length c.args.state.now.flows;
  most = omega arith;
  covers = rw c.flows.ensures.value (covers-below (length c.args.state.now.flows) _);
}
