use Rattle.dmf_text.proofs.AcceptedState.{accepted-is-state}
use Rattle.dmf_text.proofs.laws.accepted_is_state.Goals as goal

pub returns : goal.returns
returns c = accepted-is-state
