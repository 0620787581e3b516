use Rattle.std.proofs.Common.{rules, ◌≡◌, length, sym, ◌∙◌, arith}
use Rattle.dmf_c.proofs.Answered.{no-zero}
use Rattle.dmf_c.proofs.Siding.{of-marks, of-refusal}
use Rattle.dmf_c.proofs.arrays.dmf_session_side.Goals as goal

pub returns-in-Ok-Cut-clause-marked : goal.returns-in-Ok-Cut-clause-marked
returns-in-Ok-Cut-clause-marked c =
    let answers = rw c.in-Ok-Cut.field-0-is at c.in-Ok-Cut.ensures.answer in
    let size : length c.mark.new.marks ≡ c.present.result.now.network.nodes = omega arith in
    of-marks c.plan-plan.result.now c.args.session.now.timeline c.step.new.self c.present.result.now c.in-Ok-Cut.found c.mark.new.marks 0
    c.plan-plan.ensures.value c.present.ensures.state size answers c.mark.ensures.marks

pub returns-in-Err-clause-answer : goal.returns-in-Err-clause-answer
returns-in-Err-clause-answer c =
    let fits : length c.args.side.now ≡ c.present.result.now.network.nodes = omega arith in
    of-refusal c.plan-plan.result.now c.args.session.now.timeline c.step.new.self c.present.result.now (length c.args.side.now) c.refusal_code.result
    c.in-Err.refusal c.plan-plan.ensures.value c.present.ensures.state fits c.refusal_code.ensures c.in-Err.ensures.answer

pub returns-in-Err-clause-marked : goal.returns-in-Err-clause-marked
returns-in-Err-clause-marked c =
    record { state = c.present.result.now; present = search rules; so = λ ok. absurd (no-zero c.in-Err.refusal (sym c.refusal_code.ensures ∙ ok)) }
