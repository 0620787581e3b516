use Rattle.std.proofs.Common.{IfSome, subst}
use Rattle.dmf_state.specs.Direction.{along}
use Rattle.dmf_state.proofs.TakenBack.{long-along, move-along}
use Rattle.dmf_solver.specs.CarryingNetwork.{MayCarry}
use Rattle.dmf_solver.proofs.kept.CarryingFollowed.{pair-within, carrying-next}
use Rattle.dmf_solver.proofs.kept.Followed.{followed-none, move-within, followed-next, followed-all}
use Rattle.dmf_solver.proofs.following.carry_flows.Goals as goal

pub loop-m-init : goal.loop-m-init
loop-m-init c =
    followed-none MayCarry c.args.state.now (along c.args.direction c.args.moves.now) _ c.requires.state c.requires.fit
    (subst (λ carrying. IfSome carrying (MayCarry c.args.state.now)) c.in_ok-search.was c.requires.carrying)

pub overflow_sub-step : goal.overflow_sub-step
overflow_sub-step c = (move-within _ _ _ _ _ _ _ (move-along _ _ _ _ c.loop-m-test.true c.step-step.ensures) c.loop-m.invariant).0

pub set_rooms-requires-clause-number : goal.set_rooms-requires-clause-number
set_rooms-requires-clause-number c = pair-within _ _ _ _ _ _ (move-along _ _ _ _ c.loop-m-test.true c.step-step.ensures) c.loop-m.invariant

pub loop-m-preserved : goal.loop-m-preserved
loop-m-preserved c =
    followed-next MayCarry _ _ _ _ _ _ (move-along _ _ _ _ c.loop-m-test.true c.step-step.ensures) c.loop-m.invariant _
    (λ flows same within was. carrying-next _ flows _ _ _ _ same within was c.set_rooms.ensures)

pub returns : goal.returns
returns c =
    followed-all MayCarry _ _ _ _ _ (long-along c.args.direction c.args.moves.now _ c.loop-m-test.false) c.loop-m.invariant
