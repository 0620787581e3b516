use Rattle.std.proofs.Common.{drop}
use Rattle.dmf_state.specs.Revert.{with_opened}
use Rattle.dmf_state.proofs.ClosedStates.{AreOpenedUpTo}
use Rattle.dmf_state.proofs.state.State.open_all.Given as goal

abbrev pub invariant-loop-shutting : goal.invariant-loop-shutting
invariant-loop-shutting l = AreOpenedUpTo (with_opened l.arcs l.fn.self.network) (drop l.shutting-index l.arcs) l.self l.fn.self.flows
