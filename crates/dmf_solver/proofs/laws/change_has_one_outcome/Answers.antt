use Rattle.dmf_solver.proofs.changes.OneOutcome.{one-outcome}
use Rattle.dmf_solver.proofs.laws.change_has_one_outcome.Goals as goal

pub returns : goal.returns
returns c = one-outcome
