use Rattle.dmf_session.proofs.OneAnswer.{has-one-answer}
use Rattle.dmf_session.proofs.laws.command_has_one_answer.Goals as goal

pub returns : goal.returns
returns c = has-one-answer (record { outcome = c.change_has_one_outcome.ensures; side = c.network_has_one_smallest_side.ensures })
