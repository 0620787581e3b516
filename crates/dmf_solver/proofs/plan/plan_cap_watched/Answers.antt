use Rattle.dmf_solver.proofs.draining.DrainedEdits.{cap-plans, takes-off}
use Rattle.dmf_solver.proofs.plan.plan_cap_watched.Goals as goal

pub follow_drained-requires-clause-fits : goal.follow_drained-requires-clause-fits
follow_drained-requires-clause-fits g c =
    (cap-plans c.args.state.now c.in_ok-arc.arc c.in_ok-arc.old c.args.wanted.arc c.in_ok-drained.drained.moves
    c.in_ok-arc.ensures.arc.0 c.in_ok-arc.ensures.arc.1
    c.args.wanted.cap _ c.largest_cap.ensures c.if-cap-largest_cap.false (rw c.only.ensures at c.in_ok-drained.ensures.moves)).fits

pub returns-clause-plan : goal.returns-clause-plan
returns-clause-plan g c =
    cap-plans c.args.state.now c.in_ok-arc.arc c.in_ok-arc.old c.args.wanted.arc c.in_ok-drained.drained.moves
    c.in_ok-arc.ensures.arc.0 c.in_ok-arc.ensures.arc.1
    c.args.wanted.cap _ c.largest_cap.ensures c.if-cap-largest_cap.false (rw c.only.ensures at c.in_ok-drained.ensures.moves)

pub returns-clause-takes_off : goal.returns-clause-takes_off
returns-clause-takes_off g c =
    takes-off c.args.state.now c.in_ok-arc.arc c.in_ok-arc.old c.args.wanted.arc c.in_ok-drained.drained.moves c.in_ok-arc.ensures.arc.0
    c.in_ok-arc.ensures.arc.1 c.args.wanted.cap (rw c.only.ensures at c.in_ok-drained.ensures.moves)
