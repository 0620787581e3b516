use Rattle.std.proofs.Common.{◌≡◌, vec_capacity}
use Rattle.dmf_path.proofs.labels.FromStart.{AreTurning}
use Rattle.dmf_path.proofs.frontier.Frontier.turn.Given as goal

abbrev pub invariant-loop-node : goal.invariant-loop-node
invariant-loop-node l = record {
  turning : AreTurning l.nodes l.distances l.labels l.queue.items l.node;
  capacity : vec_capacity l.queue ≡ vec_capacity l.initial.queue;
}
