use Rattle.std.proofs.Common.{rules}
use Rattle.dmf_c.proofs.maximum_flow.dmf_session_maximum_flow.Goals as goal

pub returns-clause-answer : goal.returns-clause-answer
returns-clause-answer c = record { state = c.present-present.result.now; present = search rules; so = c.put_maximum_flow.ensures.answer }

pub returns-clause-value : goal.returns-clause-value
returns-clause-value c = record { state = c.present-present.result.now; present = search rules; so = c.put_maximum_flow.ensures.value }

pub returns-clause-filled : goal.returns-clause-filled
returns-clause-filled c = record { state = c.present-present.result.now; present = search rules; so = c.put_maximum_flow.ensures.filled }

pub returns-clause-marked : goal.returns-clause-marked
returns-clause-marked c = record { state = c.present-present.result.now; present = search rules; so = c.put_maximum_flow.ensures.marked }
