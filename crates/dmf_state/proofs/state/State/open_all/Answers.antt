use Rattle.std.proofs.Common.{refl}
use Rattle.dmf_state.proofs.ClosedStates.{opens-has, opens-next}
use Rattle.dmf_state.proofs.state.State.open_all.Goals as goal

pub loop-shutting-init : goal.loop-shutting-init
loop-shutting-init c = record {
  last = 0;
  before = c.requires.before;
  state = c.requires.state;
  are = c.requires.are_open;
  gives = c.requires.gives;
  final_is =
      refl;
  flows_are = refl;
}

pub arc-arc-requires : goal.arc-arc-requires
arc-arc-requires c =
    opens-has _ c.args.arcs.now c.loop-shutting.shutting-index c.loop-shutting.self _ c.loop-shutting-test.true c.loop-shutting.invariant

pub set_arc-requires-clause-is_there : goal.set_arc-requires-clause-is_there
set_arc-requires-clause-is_there c =
    opens-has _ c.args.arcs.now c.loop-shutting.shutting-index c.loop-shutting.self _ c.loop-shutting-test.true c.loop-shutting.invariant

pub set_arc-requires-clause-state : goal.set_arc-requires-clause-state
set_arc-requires-clause-state c =
    let next = opens-next _ c.args.arcs.now c.loop-shutting.shutting-index c.loop-shutting.self _ c.arc-arc.ensures.state c.loop-shutting-test.true
    c.loop-shutting.invariant in
    rw (c.open-arc.ensures, c.arc-arc.ensures.value) next.state

pub loop-shutting-preserved : goal.loop-shutting-preserved
loop-shutting-preserved c =
    let next = opens-next _ c.args.arcs.now c.loop-shutting.shutting-index c.loop-shutting.self _ c.arc-arc.ensures.state c.loop-shutting-test.true
    c.loop-shutting.invariant in
    rw (c.set_arc.ensures, c.open-arc.ensures, c.arc-arc.ensures.value) next.up_to
