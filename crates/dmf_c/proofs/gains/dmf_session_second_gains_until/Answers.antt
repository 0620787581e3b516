use Rattle.std.proofs.Common.{length, rules}
use Rattle.dmf_c.specs.Gains.{AnswersSecondGains}
use Rattle.dmf_c.proofs.Until.{ended-answer, ended-ok, ended-refused}
use Rattle.dmf_c.proofs.gains.dmf_session_second_gains_until.Goals as goal

pub returns-clause-answer : goal.returns-clause-answer
returns-clause-answer c = record {
  state = c.present-present.result.now;
  present = search rules;
  so = ended-answer (AnswersSecondGains c.present-present.result.now c.args.arcs.now (length c.args.gains.now))
      _ _ c.copy_second_gains-code.ensures.answer c.ended_code.ensures;
}

pub returns-clause-filled : goal.returns-clause-filled
returns-clause-filled c = record { state = c.present-present.result.now; present = search rules; so = λ ok. c.copy_second_gains-code.ensures.filled (ended-ok _ _ c.ended_code.ensures ok) }

pub returns-clause-refused : goal.returns-clause-refused
returns-clause-refused c = λ not_ok. c.copy_second_gains-code.ensures.refused (ended-refused _ _ c.ended_code.ensures not_ok)
