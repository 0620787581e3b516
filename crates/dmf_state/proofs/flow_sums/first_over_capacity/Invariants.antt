use Rattle.dmf_state.proofs.OverCapacity.{AreWithinBelow}
use Rattle.dmf_state.proofs.flow_sums.first_over_capacity.Given as goal

abbrev pub invariant-loop-i : goal.invariant-loop-i
invariant-loop-i l = AreWithinBelow l.i l.arcs l.flows
