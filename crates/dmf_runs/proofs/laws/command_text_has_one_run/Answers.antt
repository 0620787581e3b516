use Rattle.dmf_runs.proofs.OneRun.{has-one-run}
use Rattle.dmf_runs.proofs.laws.command_text_has_one_run.Goals as goal

pub returns : goal.returns
returns c = has-one-run c.command_has_answer.ensures c.command_has_one_answer.ensures
