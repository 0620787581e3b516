use Rattle.std.proofs.Common.{◌≡◌, length}
use Rattle.dmf_state.specs.declared.arc.Arc.{Arc}
use Rattle.dmf_state.proofs.Summing.{AreSumsSoFar}
use Rattle.dmf_state.proofs.flow_sums.flow_sums.Given as goal

abbrev pub invariant-loop-i : goal.invariant-loop-i
invariant-loop-i l = record {
  one_flow_each : length l.flows ≡ length l.arcs;
  leaving : AreSumsSoFar (λ (a : Arc). a.tail) l.nodes l.arcs l.flows l.i l.leaving.items;
  entering : AreSumsSoFar (λ (a : Arc). a.head) l.nodes l.arcs l.flows l.i l.entering.items;
}
