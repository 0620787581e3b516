use Rattle.dmf_vital.proofs.Held.{held-flow_is_lost}
use Rattle.dmf_vital.proofs.laws.held_flow_is_lost.Goals as goal

pub returns : goal.returns
returns c = held-flow_is_lost
