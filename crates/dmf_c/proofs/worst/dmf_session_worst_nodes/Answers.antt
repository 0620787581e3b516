use Rattle.std.proofs.Common.{rules}
use Rattle.dmf_c.proofs.worst.dmf_session_worst_nodes.Goals as goal

pub returns-clause-answer : goal.returns-clause-answer
returns-clause-answer c = record { state = c.present-present.result.now; present = search rules; so = c.put_worst_nodes.ensures.answer }

pub returns-clause-filled : goal.returns-clause-filled
returns-clause-filled c = record { state = c.present-present.result.now; present = search rules; so = c.put_worst_nodes.ensures.filled }
