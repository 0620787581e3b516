use Rattle.dmf_runs.proofs.Running.{has-run}
use Rattle.dmf_runs.proofs.laws.command_text_has_run.Goals as goal

pub returns : goal.returns
returns c = has-run c.command_has_answer.ensures
