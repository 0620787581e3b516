use Rattle.dmf_state.proofs.Reverting.{gives-back}
use Rattle.dmf_state.proofs.laws.reverting_gives_back.Goals as goal

pub returns : goal.returns
returns c = gives-back
