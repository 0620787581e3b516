use Rattle.dmf_solver.proofs.cuts.SomeSide.{solved-greatest}
use Rattle.dmf_solver.proofs.laws.solved_is_greatest.Goals as goal

pub returns : goal.returns
returns c = solved-greatest
