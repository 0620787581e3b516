use Rattle.dmf_runs.proofs.NeverForgotten.{never-forgotten}
use Rattle.dmf_runs.proofs.laws.million_is_never_forgotten.Goals as goal

pub returns : goal.returns
returns c = never-forgotten
