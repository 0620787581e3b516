use Rattle.std.proofs.Common.{◌+◌, length}
use Rattle.std.specs.Prelude.{IfSome}
use Rattle.dmf_path.specs.Touched.{AreBelow, KeepsUntouched}
use Rattle.dmf_solver.specs.ResidualNetwork.{network_pairs}
use Rattle.dmf_solver.specs.WaysOut.{AreKnown}
use Rattle.dmf_solver.proofs.solving.SolvingSearch.{IsSolving}
use Rattle.dmf_solver.proofs.solving.RoomLeaving.{room_leaving}
use Rattle.dmf_solver.proofs.solve.solve.Given as goal

abbrev pub invariant-loop-found : goal.invariant-loop-found
invariant-loop-found g l = record {
  solving : IsSolving l.state l.search l.value;
  kept : KeepsUntouched l.touched (network_pairs l.state.network l.state.flows) l.search.pairs;
  below : AreBelow (length l.state.network.arcs + 1) l.touched;
  ways : IfSome l.known (AreKnown l.search l.marks);
}

abbrev pub decreases-loop-found : goal.decreases-loop-found
decreases-loop-found g l = room_leaving l.search.pairs l.state.network.source
