use Rattle.std.proofs.Common.{◌≡◌, List, ℕ, ◌++◌, vec_capacity}
use Rattle.dmf_path.specs.Labels.{Spreads}
use Rattle.dmf_path.proofs.frontier.Frontier.expand.Given as goal

abbrev pub invariant-loop-place : goal.invariant-loop-place
invariant-loop-place g l = record {
  spreads : (fresh : List ℕ) × (l.queue.items ≡ l.initial.queue.items ++ fresh)
      × Spreads l.heads (g.O.OpenLinks.flags l.opens) l.initial.place l.place l.label l.initial.labels l.labels fresh;
  queue_capacity : vec_capacity l.queue ≡ vec_capacity l.initial.queue;
}
