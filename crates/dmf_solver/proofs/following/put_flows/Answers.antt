use Rattle.dmf_state.specs.Direction.{along}
use Rattle.dmf_solver.proofs.kept.Followed.{residual-next, followed-none, long-followed, move-within, followed-next, followed-all}
use Rattle.dmf_solver.specs.ResidualNetwork.{IsResidualOf}
use Rattle.std.proofs.Common.{arith}
use Rattle.dmf_state.proofs.TakenBack.{long-along, move-along}
use Rattle.dmf_solver.proofs.following.put_flows.Goals as goal

pub loop-m-init : goal.loop-m-init
loop-m-init c =
    followed-none IsResidualOf c.args.state.now (along c.args.direction c.args.moves.now) _ c.arcs-arcs.ensures.state c.requires.fit c.requires.residual

pub overflow_sub-k : goal.overflow_sub-k
overflow_sub-k c = (move-within _ _ _ _ _ _ _ (move-along _ _ _ _ c.loop-m-test.true c.step-step.ensures) c.loop-m.invariant).0

pub bounds-arcs-k : goal.bounds-arcs-k
bounds-arcs-k c =
    rw c.arcs-arcs.ensures.value (move-within _ _ _ _ _ _ _ (move-along _ _ _ _ c.loop-m-test.true c.step-step.ensures) c.loop-m.invariant).1

pub set_rooms-requires-clause-number : goal.set_rooms-requires-clause-number
set_rooms-requires-clause-number c =
    let within = (move-within _ _ _ _ _ _ _ (move-along _ _ _ _ c.loop-m-test.true c.step-step.ensures) c.loop-m.invariant).1 in
    omega (arith, within, long-followed _ _ _ _ _ c.loop-m.invariant)

pub loop-m-preserved : goal.loop-m-preserved
loop-m-preserved c =
    followed-next IsResidualOf _ _ _ _ _ _ (move-along _ _ _ _ c.loop-m-test.true c.step-step.ensures) c.loop-m.invariant _
    (λ flows same within was. residual-next _ flows _ _ _ _ same within was (rw (c.saturating_sub.ensures, c.arcs-arcs.ensures.value) at c.set_rooms.ensures))

pub returns-clause-flows : goal.returns-clause-flows
returns-clause-flows c =
    followed-all IsResidualOf _ _ _ _ _ (long-along c.args.direction c.args.moves.now _ c.loop-m-test.false) c.loop-m.invariant

pub returns-clause-one_each : goal.returns-clause-one_each
returns-clause-one_each c = long-followed _ _ _ _ _ c.loop-m.invariant
