use Rattle.dmf_solver.proofs.solving.SolvedEdit.{PlansSolve-listed, value-listed}
use Rattle.dmf_solver.proofs.plan.plan_solve_watched.Goals as goal

pub returns-clause-edit : goal.returns-clause-edit
returns-clause-edit g c =
    let done = c.in_ok-solved.ensures in
    PlansSolve-listed c.args.state.now c.in_ok-solved.solved c.in_ok-moves.moves done.state done.solved c.in_ok-moves.ensures

pub returns-clause-value : goal.returns-clause-value
returns-clause-value g c =
    let done = c.in_ok-solved.ensures in
    value-listed c.args.state.now c.in_ok-solved.solved c.in_ok-moves.moves done.state done.solved c.in_ok-moves.ensures c.in_ok-side.side
    c.in_ok-side.ensures.value
