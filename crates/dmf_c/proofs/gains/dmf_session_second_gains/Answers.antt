use Rattle.std.proofs.Common.{rules}
use Rattle.dmf_c.proofs.gains.dmf_session_second_gains.Goals as goal

pub returns-clause-answer : goal.returns-clause-answer
returns-clause-answer c = record { state = c.present-present.result.now; present = search rules; so = c.copy_second_gains.ensures.answer }

pub returns-clause-filled : goal.returns-clause-filled
returns-clause-filled c = record { state = c.present-present.result.now; present = search rules; so = c.copy_second_gains.ensures.filled }
