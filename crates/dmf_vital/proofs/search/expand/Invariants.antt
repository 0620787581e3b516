use Rattle.dmf_vital.proofs.Expanding.{IsExpanding}
use Rattle.dmf_vital.proofs.search.expand.Given as goal

abbrev pub invariant-loop-arc : goal.invariant-loop-arc
invariant-loop-arc l = IsExpanding l.steps.state.now.network l.steps.flows.now l.steps.exits l.back l.against l.v l.width
    l.fn.tree.nodes.items l.tree.nodes.items l.tree.found.items l.arc

abbrev pub decreases-loop-arc : goal.decreases-loop-arc
decreases-loop-arc l = l.arc
