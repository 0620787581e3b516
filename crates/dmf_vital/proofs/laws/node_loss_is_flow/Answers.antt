use Rattle.dmf_vital.proofs.HeldNode.{held-node_flow_is_lost, node_loss-at_most}
use Rattle.dmf_vital.proofs.laws.node_loss_is_flow.Goals as goal

pub returns-clause-at_most : goal.returns-clause-at_most
returns-clause-at_most c = node_loss-at_most

pub returns-clause-held : goal.returns-clause-held
returns-clause-held c = held-node_flow_is_lost
