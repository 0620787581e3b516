use Rattle.std.proofs.Common.{◌≡◌, drop}
use Rattle.dmf_state.specs.Edit.{numbers}
use Rattle.dmf_state.specs.Flow.{flow_on_all}
use Rattle.dmf_solver.proofs.shut.are_without_flow.Given as goal

abbrev pub invariant-loop-shutting : goal.invariant-loop-shutting
invariant-loop-shutting l = flow_on_all l.state.flows (numbers (drop l.shutting-index l.arcs)) ≡ flow_on_all l.state.flows (numbers l.arcs)
