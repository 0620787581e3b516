use Rattle.dmf_state.proofs.Reverting.{one-before}
use Rattle.dmf_state.proofs.laws.edit_has_one_state_before.Goals as goal

pub returns : goal.returns
returns c = one-before
