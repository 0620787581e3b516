use Rattle.dmf_vital.proofs.Bounds.{loss-at_most_flow}
use Rattle.dmf_vital.proofs.Least.{some-flow_is_loss}
use Rattle.dmf_vital.proofs.laws.loss_is_flow.Goals as goal

pub returns-clause-at_most : goal.returns-clause-at_most
returns-clause-at_most c = loss-at_most_flow

pub returns-clause-some : goal.returns-clause-some
returns-clause-some c = some-flow_is_loss
