use Rattle.dmf_runs.proofs.OptimalRuns.{solves-are-optimal, runs-are-optimal}
use Rattle.dmf_runs.proofs.laws.solves_are_optimal.Goals as goal

pub returns-clause-each : goal.returns-clause-each
returns-clause-each c = solves-are-optimal c.command_has_answer.ensures c.command_has_one_answer.ensures c.solved_is_optimal.ensures

pub returns-clause-whole : goal.returns-clause-whole
returns-clause-whole c = runs-are-optimal c.command_has_answer.ensures c.command_has_one_answer.ensures c.solved_is_optimal.ensures
