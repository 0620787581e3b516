use Rattle.dmf_path.proofs.labels.Marking.{AreMarking}
use Rattle.dmf_path.proofs.mark.mark_queued.Given as goal

abbrev pub invariant-loop-node : goal.invariant-loop-node
invariant-loop-node l = AreMarking l.search.labels l.nodes l.mark l.initial.marks l.node-index l.marks
