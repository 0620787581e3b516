use Rattle.dmf_vital.proofs.Bounds.{some-loss}
use Rattle.dmf_vital.proofs.laws.arc_has_loss.Goals as goal

pub returns : goal.returns
returns c = some-loss
