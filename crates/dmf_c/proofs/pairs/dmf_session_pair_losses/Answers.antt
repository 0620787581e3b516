use Rattle.std.proofs.Common.{rules}
use Rattle.dmf_c.proofs.pairs.dmf_session_pair_losses.Goals as goal

pub returns-clause-answer : goal.returns-clause-answer
returns-clause-answer c = record { state = c.present-present.result.now; present = search rules; so = c.copy_pair_losses.ensures.answer }

pub returns-clause-filled : goal.returns-clause-filled
returns-clause-filled c = record { state = c.present-present.result.now; present = search rules; so = c.copy_pair_losses.ensures.filled }
