use Rattle.dmf_solver.proofs.cuts.SomeSide.{greatest-or-surpassed}
use Rattle.dmf_solver.proofs.laws.flow_is_greatest_or_surpassed.Goals as goal

pub returns : goal.returns
returns c = greatest-or-surpassed
