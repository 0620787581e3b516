use Rattle.dmf_vital.proofs.Summed.{IsSummed}
use Rattle.dmf_vital.proofs.rerouting.flow_on_exits.Given as goal

abbrev pub invariant-loop-arc : goal.invariant-loop-arc
invariant-loop-arc l = IsSummed l.state.network l.flows l.exits.node l.sum l.arc

abbrev pub decreases-loop-arc : goal.decreases-loop-arc
decreases-loop-arc l = l.arc
