use Rattle.dmf_state.proofs.Ascending.{AreMarkedUpTo}
use Rattle.dmf_solver.proofs.side.marked_nodes.Given as goal

abbrev pub invariant-loop-k : goal.invariant-loop-k
invariant-loop-k l = AreMarkedUpTo l.marks l.k l.ids.items
