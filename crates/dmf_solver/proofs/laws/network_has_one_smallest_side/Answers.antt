use Rattle.dmf_solver.proofs.cuts.SmallestSide.{one-smallest_side}
use Rattle.dmf_solver.proofs.laws.network_has_one_smallest_side.Goals as goal

pub returns : goal.returns
returns c = one-smallest_side
