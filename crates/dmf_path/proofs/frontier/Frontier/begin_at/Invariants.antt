use Rattle.std.proofs.Common.{◌≡◌, ◌-◌, length, vec_capacity}
use Rattle.dmf_path.proofs.labels.Roots.{AreBeginning}
use Rattle.dmf_path.proofs.frontier.Frontier.begin_at.Given as goal

abbrev pub invariant-loop-root : goal.invariant-loop-root
invariant-loop-root l = record {
  beginning : AreBeginning (length l.fn.self.labels - 1) l.roots l.root-index l.labels l.queue.items;
  queue_capacity : vec_capacity l.queue ≡ vec_capacity l.initial.queue;
}
