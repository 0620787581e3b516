use Rattle.std.proofs.Common.{◌≡◌}
use Rattle.dmf_vital.proofs.Listed.{AreForgotten}
use Rattle.dmf_vital.proofs.tree.forget.Given as goal

abbrev pub invariant-loop-k : goal.invariant-loop-k
invariant-loop-k l = record {
  forgotten : AreForgotten l.fn.tree.nodes.items l.tree.nodes.items l.k;
  found : l.tree.found.items ≡ l.fn.tree.found.items;
}
