use Rattle.dmf_path.proofs.labels.Labelling.{AreLeft}
use Rattle.dmf_path.proofs.label.clear_queued.Given as goal

abbrev pub invariant-loop-node : goal.invariant-loop-node
invariant-loop-node l = AreLeft l.labels l.queue l.node-index
