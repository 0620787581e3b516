use Rattle.std.proofs.Common.{drop}
use Rattle.dmf_state.specs.Edit.{with_closed}
use Rattle.dmf_state.proofs.ClosedStates.{AreClosedUpTo}
use Rattle.dmf_state.proofs.state.State.close_all.Given as goal

abbrev pub invariant-loop-shutting : goal.invariant-loop-shutting
invariant-loop-shutting l = AreClosedUpTo (with_closed l.arcs l.fn.self.network) (drop l.shutting-index l.arcs) l.self l.fn.self.flows
