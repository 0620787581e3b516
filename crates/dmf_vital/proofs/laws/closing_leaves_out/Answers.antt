use Rattle.dmf_vital.proofs.Closing.{closing-leaves_out}
use Rattle.dmf_vital.proofs.laws.closing_leaves_out.Goals as goal

pub returns : goal.returns
returns c = closing-leaves_out
