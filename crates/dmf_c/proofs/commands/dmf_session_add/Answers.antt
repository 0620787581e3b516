use Rattle.std.proofs.Common.{◌∙◌, subst}
use Rattle.dmf_history.specs.Timeline.{Timeline}
use Rattle.dmf_session.specs.declared.command.Command.TheVariants.{Add}
use Rattle.dmf_c.specs.Codes.{AnswersCode, AddsLast}
use Rattle.dmf_c.proofs.Answered.{kept, adds-last}
use Rattle.dmf_c.proofs.commands.dmf_session_add.Goals as goal

pub returns-clause-number : goal.returns-clause-number
returns-clause-number c = λ ok.
    let command = Add c.args.tail c.args.head c.args.capacity in
    let a : AnswersCode c.plan.result.now command c.answer_code.result c.step.new.self =
    record { answer = c.step.result; answers = c.step.ensures.answer; code_is = c.answer_code.ensures } in
    subst (λ (t : Timeline). AddsLast t c.args.tail c.args.head c.args.capacity c.step.new.self) c.plan.ensures.value
    (adds-last c.plan.result.now c.step.new.self c.args.tail c.args.head c.args.capacity c.answer_code.result a ok)

pub returns-clause-refused : goal.returns-clause-refused
returns-clause-refused c = λ not_ok.
    let command = Add c.args.tail c.args.head c.args.capacity in
    let a : AnswersCode c.plan.result.now command c.answer_code.result c.step.new.self =
    record { answer = c.step.result; answers = c.step.ensures.answer; code_is = c.answer_code.ensures } in
    kept c.plan.result.now c.step.new.self command c.answer_code.result a not_ok ∙ c.plan.ensures.value
