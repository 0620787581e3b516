use Rattle.dmf_vital.proofs.Both.{pair_loss-at_most_flow, some-pair_loss}
use Rattle.dmf_vital.proofs.laws.pair_has_loss.Goals as goal

pub returns-clause-some : goal.returns-clause-some
returns-clause-some c = some-pair_loss

pub returns-clause-at_most : goal.returns-clause-at_most
returns-clause-at_most c = pair_loss-at_most_flow
