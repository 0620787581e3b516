use Rattle.dmf_session.proofs.Optimal.{solved-optimal}
use Rattle.dmf_session.proofs.laws.solved_is_optimal.Goals as goal

pub returns : goal.returns
returns c = solved-optimal c.solved_is_greatest.ensures c.greatest_is_optimal.ensures
