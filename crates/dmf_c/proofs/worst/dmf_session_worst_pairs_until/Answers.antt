use Rattle.std.proofs.Common.{length, rules}
use Rattle.dmf_c.specs.Worst.{AnswersWorstPairs}
use Rattle.dmf_c.proofs.Until.{ended-answer, ended-ok, ended-refused}
use Rattle.dmf_c.proofs.worst.dmf_session_worst_pairs_until.Goals as goal

pub returns-clause-answer : goal.returns-clause-answer
returns-clause-answer c = record {
  state = c.present-present.result.now;
  present = search rules;
  so = ended-answer (AnswersWorstPairs c.present-present.result.now (length c.args.among.now) (length c.args.firsts.now) (length c.args.seconds.now) (length c.args.losses.now))
      _ _ c.put_worst_pairs-code.ensures.answer c.ended_code.ensures;
}

pub returns-clause-filled : goal.returns-clause-filled
returns-clause-filled c = record { state = c.present-present.result.now; present = search rules; so = λ ok. c.put_worst_pairs-code.ensures.filled (ended-ok _ _ c.ended_code.ensures ok) }

pub returns-clause-refused : goal.returns-clause-refused
returns-clause-refused c = λ not_ok. c.put_worst_pairs-code.ensures.refused (ended-refused _ _ c.ended_code.ensures not_ok)
