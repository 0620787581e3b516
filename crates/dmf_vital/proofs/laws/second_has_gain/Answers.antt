use Rattle.dmf_vital.proofs.Second.{some-gain, gain-at_most_capacity}
use Rattle.dmf_vital.proofs.laws.second_has_gain.Goals as goal

pub returns-clause-some : goal.returns-clause-some
returns-clause-some c = some-gain

pub returns-clause-at_most : goal.returns-clause-at_most
returns-clause-at_most c = gain-at_most_capacity
