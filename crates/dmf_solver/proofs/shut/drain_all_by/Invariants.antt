use Rattle.std.proofs.Common.{drop, take, length, ◌+◌}
use Rattle.dmf_path.specs.Touched.{AreBelow}
use Rattle.dmf_state.specs.Edit.{numbers}
use Rattle.dmf_solver.specs.Moves.{UntouchedStay}
use Rattle.dmf_solver.specs.Pairs.{drained_flows, flows_without}
use Rattle.dmf_solver.proofs.draining.DrainedInTurn.{AreDrainedUpTo}
use Rattle.dmf_solver.proofs.shut.drain_all_by.Given as goal

-- The arcs before this one are drained. All flows that differ count as touched.
abbrev pub invariant-loop-i : goal.invariant-loop-i
invariant-loop-i g l = record {
  up_to : AreDrainedUpTo l.state (numbers l.arcs) (numbers (drop l.i l.arcs)) (flows_without (take l.i l.arcs) l.state.flows) l.search;
  others_stay : UntouchedStay l.touched l.state.flows (drained_flows l.state (take l.i l.arcs) l.search);
  below : AreBelow (length l.state.flows + 1) l.touched;
}
