use Rattle.std.proofs.Common.{refl}
use Rattle.dmf_state.proofs.ClosedStates.{closes-next}
use Rattle.dmf_state.proofs.state.State.close_all.Goals as goal

pub loop-shutting-init : goal.loop-shutting-init
loop-shutting-init c = record { last = 0; are = c.requires.are_open; state = c.requires.state; final_is = refl; flows_are = refl }

pub set_arc-requires-clause-state : goal.set_arc-requires-clause-state
set_arc-requires-clause-state c =
    let next = closes-next _ c.args.arcs.now c.loop-shutting.shutting-index c.loop-shutting.self _ c.arc.ensures.state c.loop-shutting-test.true
    c.loop-shutting.invariant in
    rw (c.closed-arc.ensures, c.arc.ensures.value) next.state

pub loop-shutting-preserved : goal.loop-shutting-preserved
loop-shutting-preserved c =
    let next = closes-next _ c.args.arcs.now c.loop-shutting.shutting-index c.loop-shutting.self _ c.arc.ensures.state c.loop-shutting-test.true
    c.loop-shutting.invariant in
    rw (c.set_arc.ensures, c.closed-arc.ensures, c.arc.ensures.value) next.up_to
