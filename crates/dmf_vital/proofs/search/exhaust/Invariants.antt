use Rattle.std.proofs.Common.{◌≤◌, length}
use Rattle.dmf_vital.specs.Tree.{AreEntered, AreExpanded, IsGrown}
use Rattle.dmf_vital.proofs.search.exhaust.Given as goal

-- This end has expanded its nodes in the first places.
abbrev pub invariant-loop-next : goal.invariant-loop-next
invariant-loop-next l = record {
  grown : IsGrown l.steps.state.now.network l.steps.flows.now l.steps.exits l.tree.nodes.items l.tree.found.items;
  entered : AreEntered l.steps.state.now.network l.steps.flows.now l.steps.exits l.tree.nodes.items;
  expanded : AreExpanded l.steps.state.now.network l.steps.flows.now l.steps.exits l.tree.nodes.items l.back l.next;
  within : l.next ≤ length l.tree.found.items;
}
