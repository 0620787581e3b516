use Rattle.std.proofs.Common.{subst}
use Rattle.dmf_state.specs.Edit.{moved}
use Rattle.dmf_state.specs.Flow.{flow_on_all}
use Rattle.dmf_solver.specs.Drain.{TakesOff}
use Rattle.dmf_solver.proofs.draining.DrainedEdits.{shut-plans}
use Rattle.dmf_solver.proofs.plan.plan_shut_watched.Goals as goal

pub follow_drained-requires-clause-fits : goal.follow_drained-requires-clause-fits
follow_drained-requires-clause-fits g c =
    let drained = rw c.deref.ensures.value at c.in_ok-drained.ensures.moves in
    (shut-plans c.args.state.now c.in_ok-arcs.arcs c.in_ok-drained.drained.moves c.args.v c.nodes.ensures.state c.in_ok-arcs.ensures.are_open drained
    c.in_ok-arcs.ensures.numbers).fits

pub returns-clause-plan : goal.returns-clause-plan
returns-clause-plan g c =
    let drained = rw c.deref.ensures.value at c.in_ok-drained.ensures.moves in
    shut-plans c.args.state.now c.in_ok-arcs.arcs c.in_ok-drained.drained.moves c.args.v c.nodes.ensures.state c.in_ok-arcs.ensures.are_open drained
    c.in_ok-arcs.ensures.numbers

pub returns-clause-takes_off : goal.returns-clause-takes_off
returns-clause-takes_off g c =
    let s = c.args.state.now in
    let drained = rw c.deref.ensures.value at c.in_ok-drained.ensures.moves in
    subst (λ js. TakesOff s.network (flow_on_all s.flows js) s.flows (moved c.in_ok-drained.drained.moves.items s.flows)) c.in_ok-arcs.ensures.numbers
    drained.takes_off
