use Rattle.std.proofs.Common.{sym, ap, ◌∙◌, subst}
use Rattle.dmf_state.specs.Edit.{moves_of}
use Rattle.dmf_state.specs.Revert.{Stands}
use Rattle.dmf_state.proofs.ClosedStates.{AreClosed-stands}
use Rattle.dmf_state.proofs.Reverting.{fit-back, IsState-reverted}
use Rattle.dmf_state.proofs.state.State.revert.Goals as goal

pub open_all-requires : goal.open_all-requires
open_all-requires c =
    rw c.deref-in-Shut.ensures.value (AreClosed-stands c.in-Shut.arcs c.in-Shut.moves c.args.self.now
    (subst (λ e. Stands e c.args.self.now) c.in-Shut.is c.requires))

pub move_flows-requires-clause-fit : goal.move_flows-requires-clause-fit
move_flows-requires-clause-fit c =
    rw c.open_all.ensures (fit-back _ _ _ c.requires (ap moves_of c.in-Shut.is ∙ sym c.deref-in-Shut-2.ensures.value))

pub move_flows-requires-clause-state : goal.move_flows-requires-clause-state
move_flows-requires-clause-state c = λ _.
    rw (c.deref-in-Shut-2.ensures.value, c.open_all.ensures, c.deref-in-Shut.ensures.value)
    (IsState-reverted _ _ (subst (λ e. Stands e c.args.self.now) c.in-Shut.is c.requires))

pub move_flows-requires-in-Solve-clause-fit : goal.move_flows-requires-in-Solve-clause-fit
move_flows-requires-in-Solve-clause-fit c = fit-back _ _ _ c.requires (ap moves_of c.in-Solve.is ∙ sym c.deref-in-Solve.ensures.value)

pub move_flows-requires-in-Solve-clause-state : goal.move_flows-requires-in-Solve-clause-state
move_flows-requires-in-Solve-clause-state c = λ _.
    rw c.deref-in-Solve.ensures.value (IsState-reverted _ _ (subst (λ e. Stands e c.args.self.now) c.in-Solve.is c.requires))

pub open_again-requires-clause-fit : goal.open_again-requires-clause-fit
open_again-requires-clause-fit c =
    rw c.deref.ensures.value (fit-back _ _ _ c.requires (ap moves_of c.in-Cap.is))

pub open_again-requires-clause-state : goal.open_again-requires-clause-state
open_again-requires-clause-state c =
    rw c.deref.ensures.value (IsState-reverted _ _ (subst (λ e. Stands e c.args.self.now) c.in-Cap.is c.requires))

pub open_again-requires-in-Close-clause-fit : goal.open_again-requires-in-Close-clause-fit
open_again-requires-in-Close-clause-fit c =
    rw c.deref-in-Close.ensures.value (fit-back _ _ _ c.requires (ap moves_of c.in-Close.is))

pub open_again-requires-in-Close-clause-state : goal.open_again-requires-in-Close-clause-state
open_again-requires-in-Close-clause-state c =
    rw c.deref-in-Close.ensures.value (IsState-reverted _ _ (subst (λ e. Stands e c.args.self.now) c.in-Close.is c.requires))
