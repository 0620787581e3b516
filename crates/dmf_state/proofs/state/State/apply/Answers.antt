use Rattle.std.proofs.Common.{subst}
use Rattle.dmf_state.specs.Edit.{Fits}
use Rattle.dmf_state.proofs.ClosedStates.{IsState-before_closed}
use Rattle.dmf_state.proofs.state.State.apply.Goals as goal

pub move_flows-requires-clause-state : goal.move_flows-requires-clause-state
move_flows-requires-clause-state c = λ state.
    let s = c.args.self.now in
    let fits = subst (λ e. Fits e s) c.in-Shut.is c.requires in
    rw c.deref-in-Shut.ensures.value (IsState-before_closed 0 c.in-Shut.arcs.items s.network _ state.network fits.arc fits.applied).0
