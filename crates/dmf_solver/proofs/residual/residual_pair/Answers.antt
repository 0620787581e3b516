use Rattle.std.proofs.Common.{rules}
use Rattle.dmf_solver.proofs.residual.residual_pair.Goals as goal

pub returns : goal.returns
returns c = search rules
