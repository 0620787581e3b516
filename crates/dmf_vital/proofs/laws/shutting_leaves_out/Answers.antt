use Rattle.dmf_vital.proofs.Shutting.{shutting-leaves_out}
use Rattle.dmf_vital.proofs.laws.shutting_leaves_out.Goals as goal

pub returns : goal.returns
returns c = shutting-leaves_out
