use Rattle.dmf_solver.proofs.changes.SomeOutcome.{some-outcome}
use Rattle.dmf_solver.proofs.laws.change_has_outcome.Goals as goal

pub returns : goal.returns
returns c = some-outcome
