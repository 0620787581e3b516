use Rattle.dmf_solver.proofs.cuts.SomeSide.{some-smallest_side}
use Rattle.dmf_solver.proofs.laws.network_has_smallest_side.Goals as goal

pub returns : goal.returns
returns c = some-smallest_side
