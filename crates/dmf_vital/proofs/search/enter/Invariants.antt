use Rattle.dmf_vital.proofs.Entering.{IsEntering}
use Rattle.dmf_vital.proofs.search.enter.Given as goal

abbrev pub invariant-loop-arc : goal.invariant-loop-arc
invariant-loop-arc l = IsEntering l.steps.state.now.network l.steps.flows.now l.steps.exits l.tree.nodes.items l.tree.found.items l.arc

abbrev pub decreases-loop-arc : goal.decreases-loop-arc
decreases-loop-arc l = l.arc
