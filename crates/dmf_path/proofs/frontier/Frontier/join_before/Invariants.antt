use Rattle.std.proofs.Common.{◌≡◌, ◌+◌, ◌≤◌, length, vec_capacity}
use Rattle.dmf_path.proofs.labels.Joining.{AreJoining}
use Rattle.dmf_path.proofs.frontier.Frontier.join_before.Given as goal

abbrev pub invariant-loop-node : goal.invariant-loop-node
invariant-loop-node l = record {
  joining : AreJoining (λ s. l.long + s) l.initial.labels l.distances l.nodes l.node-index l.labels l.queue.items (length l.initial.labels);
  queue_capacity : vec_capacity l.queue ≡ vec_capacity l.initial.queue;
  longer : length l.initial.queue.items ≤ length l.queue.items;
}
