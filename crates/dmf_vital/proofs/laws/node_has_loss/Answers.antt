use Rattle.dmf_vital.proofs.Shutting.{some-node_loss}
use Rattle.dmf_vital.proofs.laws.node_has_loss.Goals as goal

pub returns : goal.returns
returns c = some-node_loss
