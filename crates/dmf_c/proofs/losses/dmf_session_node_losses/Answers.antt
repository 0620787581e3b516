use Rattle.std.proofs.Common.{rules}
use Rattle.dmf_c.proofs.losses.dmf_session_node_losses.Goals as goal

pub returns-clause-answer : goal.returns-clause-answer
returns-clause-answer c = record { state = c.present-present.result.now; present = search rules; so = c.copy_node_losses.ensures.answer }

pub returns-clause-filled : goal.returns-clause-filled
returns-clause-filled c = record { state = c.present-present.result.now; present = search rules; so = c.copy_node_losses.ensures.filled }
