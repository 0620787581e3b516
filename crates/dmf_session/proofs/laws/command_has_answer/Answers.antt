use Rattle.dmf_session.proofs.Answering.{has-answer}
use Rattle.dmf_session.proofs.laws.command_has_answer.Goals as goal

pub returns : goal.returns
returns c = has-answer (record {
  outcome = c.change_has_outcome.ensures;
  side = c.network_has_smallest_side.ensures;
  greatest = c.flow_is_greatest_or_surpassed.ensures;
})
