use Rattle.dmf_runs.proofs.Running.{steps-are-answers}
use Rattle.dmf_runs.proofs.laws.steps_are_answers.Goals as goal

pub returns : goal.returns
returns c = steps-are-answers c.command_has_answer.ensures c.command_has_one_answer.ensures
