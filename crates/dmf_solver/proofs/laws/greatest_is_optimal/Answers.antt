use Rattle.dmf_solver.proofs.cuts.Optimal.{greatest-optimal}
use Rattle.dmf_solver.proofs.laws.greatest_is_optimal.Goals as goal

pub returns : goal.returns
returns c = greatest-optimal c.max_flow_min_cut.ensures.cut
