use Rattle.dmf_vital.proofs.Values.{some-value, one-value, one-loss}
use Rattle.dmf_vital.proofs.laws.greatest_value_is_one.Goals as goal

pub returns-clause-some : goal.returns-clause-some
returns-clause-some c = some-value

pub returns-clause-one : goal.returns-clause-one
returns-clause-one c = one-value

pub returns-clause-one_loss : goal.returns-clause-one_loss
returns-clause-one_loss c = one-loss
