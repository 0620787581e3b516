use Rattle.dmf_vital.specs.Tree.{IsGrown, KeepsReached}
use Rattle.dmf_vital.proofs.search.take_turn.Given as goal

-- The tree has grown.
abbrev pub invariant-loop : goal.invariant-loop
invariant-loop l = record {
  grown : IsGrown l.steps.state.now.network l.steps.flows.now l.steps.exits l.tree.nodes.items l.tree.found.items;
  kept : KeepsReached l.fn.tree.nodes.items l.tree.nodes.items;
}
