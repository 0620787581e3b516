use Rattle.std.proofs.Common.{ℕ, slice_index, ◌≡◌, List, Option, length, arith, subst}
use Rattle.dmf_session.specs.declared.command.Command.{Command}
use Rattle.dmf_c.specs.Running.{AnswersKind, HasRun, command_of, commands_of}
use Rattle.dmf_c.specs.Status.{DMF_OK}
use Rattle.dmf_c.proofs.Batches.{more-run, stopped, all-run, next-command, length-commands_of}
use Rattle.dmf_c.proofs.running.run.Goals as goal

pub returns-then-code-ne0 : goal.returns-then-code-ne0
returns-then-code-ne0 c =
    let a = c.args in
    let next = next-command a.kinds.now a.firsts.now a.seconds.now a.thirds.now c.loop-i.i c.loop-i-test.true c.requires.firsts c.requires.seconds c.requires.thirds in
    stopped c.loop-i.invariant _ next c.carry_out-code.result c.carry_out-code.new.plan
    (omega (arith, c.loop-i-test.true, c.requires.values, c.loop-i.auto.values)) c.if-code-ne0.true
    (subst (λ (command : Option Command). AnswersKind c.loop-i.plan command c.carry_out-code.result c.carry_out-code.new.plan) c.command_of-command.ensures c.carry_out-code.ensures)

pub loop-i-preserved : goal.loop-i-preserved
loop-i-preserved c =
    let a = c.args in
    let next = next-command a.kinds.now a.firsts.now a.seconds.now a.thirds.now c.loop-i.i c.loop-i-test.true c.requires.firsts c.requires.seconds c.requires.thirds in
    let command : Option Command = command_of (slice_index a.kinds.now c.loop-i.i) (slice_index a.firsts.now c.loop-i.i) (slice_index a.seconds.now c.loop-i.i) (slice_index a.thirds.now c.loop-i.i) in
    let answered : AnswersKind c.loop-i.plan command c.carry_out-code.result c.carry_out-code.new.plan =
    subst (λ (asked : Option Command). AnswersKind c.loop-i.plan asked c.carry_out-code.result c.carry_out-code.new.plan) c.command_of-command.ensures c.carry_out-code.ensures in
    let done : AnswersKind c.loop-i.plan command DMF_OK c.carry_out-code.new.plan =
    subst (λ (code : ℕ). AnswersKind c.loop-i.plan command code c.carry_out-code.new.plan) c.if-code-ne0.false answered in
    more-run c.loop-i.invariant _ next c.carry_out-code.new.plan c.value.result
    (omega (arith, c.loop-i-test.true, c.requires.values, c.loop-i.auto.values)) done
    (record { state = c.present.result.now; present = c.present.ensures.state; so = c.value.ensures.value })

pub returns : goal.returns
returns c =
    let a = c.args in
    let all : List (Option Command) = commands_of a.kinds.now a.firsts.now a.seconds.now a.thirds.now in
    let long : length all ≡ length a.kinds.now =
    length-commands_of a.kinds.now a.firsts.now a.seconds.now a.thirds.now c.requires.firsts c.requires.seconds c.requires.thirds in
    let last : c.loop-i.i ≡ length a.kinds.now = omega (arith, c.loop-i-test.false, c.loop-i.auto.i-end) in
    subst (λ (i : ℕ). HasRun a.plan.now all DMF_OK c.loop-i.plan a.values.now c.loop-i.values i) last
    (all-run c.loop-i.invariant (omega (arith, long, c.loop-i-test.false)) (omega (arith, last, c.requires.values, c.loop-i.auto.values)))
