use Rattle.std.proofs.Common.{[], false, refl, sym, subst, arith}
use Rattle.std.proofs.lemmas.Bool.{false≢true}
use Rattle.std.proofs.lemmas.Result.{err_from_is_err_and}
use Rattle.dmf_streams.specs.Input.{input_over}
use Rattle.dmf_runs.proofs.Progress.{Carried, Progress, Progress-none, Progress-more}
use Rattle.dmf_runs.proofs.Endings.{RunsCommands-end, RunsCommands-refused, RunsCommands-past, RunsCommands-last, RunsCommands-write}
use Rattle.dmf_runs.proofs.session.SessionRun.run_lines.Given.{Over}
use Rattle.dmf_runs.proofs.session.SessionRun.run_lines.Goals as goal
use Rattle.dmf_runs.proofs.session.SessionRun.run_lines.Goals.{After-is_refusal-is_refused}

pub loop-number-init : goal.loop-number-init
loop-number-init g c =
    let reader = g.C.Source.left c.args.commands.now in
    let input = input_over (record { bytes = []; count = 0 }) reader in
    let held = g.W.Sink.written c.args.out.now in
    let t = g.H.History.timeline c.args.session.now in
    subst (λ pending. Progress c.args.self.wanted t input (input_over pending reader) held held 1 t false) (sym c.new-input.ensures)
    (Progress-none c.args.self.wanted t input held (record { none_pending = refl; none_taken = refl }))

pub returns-in_err-ended : goal.returns-in_err-ended
returns-in_err-ended g c =
    let failed = err_from_is_err_and c.from_residual.result c.from_residual.ensures.1 in
    rw (failed.1, failed.2)
    (RunsCommands-refused c.loop-number.invariant _ c.in_err-ended.field-0.0
    c.next_line.new.line (omega arith) c.in_err-ended.ensures)

pub returns-in_default : goal.returns-in_default
returns-in_default g c =
    let gave = rw c.in_default.is at c.in_ok-ended.ensures in
    RunsCommands-end c.loop-number.invariant _ c.status.result (omega arith)
    c.status.ensures gave.0 gave.1

-- the reply to a line could not be written
pub returns-in_err-answer : goal.returns-in_err-answer
returns-in_err-answer g c =
    let failed = err_from_is_err_and c.from_residual-in_err-answer.result c.from_residual-in_err-answer.ensures.1 in
    let told = c.in_err-answer.ensures in
    let gave = rw c.in-Line.is at c.in_ok-ended.ensures in
    rw (failed.1, failed.2)
    (RunsCommands-write c.loop-number.invariant _ (g.W.Sink.written c.answer.new.out) c.meaning_of-meaning.result c.next_line.new.line
    (g.H.History.timeline c.answer.new.session) c.in_err-answer.field-0.0 (λ none. false≢true (told.silent none).1) told.line
    c.in-Line.ended gave c.meaning_of-meaning.ensures)

-- the line was carried out
carried : (g : Over) (c : After-is_refusal-is_refused g)
    → Carried c.args.self.wanted (g.H.History.timeline c.loop-number.session) c.meaning_of-meaning.result c.loop-number.number
    (g.W.Sink.written c.loop-number.out) (g.W.Sink.written c.answer.new.out) c.is_refusal-is_refused.result (g.H.History.timeline c.answer.new.session)
carried g c =
    let told = c.in_ok-answer.ensures.line in
    record { text = told.0; runs = rw (c.is_refusal-is_refused.ensures, told.4) told.2; appends = told.3.0; writer = told.3.1 }

-- a last line was carried out
pub returns-then-not-ended : goal.returns-then-not-ended
returns-then-not-ended g c =
    let then = input_over c.next_line.new.self (g.C.Source.left c.next_line.new.source) in
    let carried = carried g (goal.at.returns-then-not-ended g c).After-is_refusal-is_refused in
    let gave = rw (c.in-Line.is, c.if-not-ended.true) at c.in_ok-ended.ensures in
    let means = rw c.if-not-ended.true at c.meaning_of-meaning.ensures in
    RunsCommands-last c.loop-number.invariant then _ _ c.next_line.new.line _ _
    c.status-then-not-ended.result (omega arith) c.status-then-not-ended.ensures gave means carried

pub loop-number-preserved : goal.loop-number-preserved
loop-number-preserved g c =
    let then = input_over c.next_line.new.self (g.C.Source.left c.next_line.new.source) in
    let carried = carried g (goal.at.loop-number-preserved g c).After-is_refusal-is_refused in
    let gave = rw (c.in-Line.is, c.if-not-ended.false) at c.in_ok-ended.ensures in
    let means = rw c.if-not-ended.false at c.meaning_of-meaning.ensures in
    Progress-more then _ _ c.next_line.new.line _ _
    c.loop-number.invariant gave means carried

pub returns-in_err-expect_end : goal.returns-in_err-expect_end
returns-in_err-expect_end g c =
    let failed = err_from_is_err_and c.from_residual-in_err-expect_end.result c.from_residual-in_err-expect_end.ensures.1 in
    rw (failed.1, failed.2)
    (RunsCommands-past c.loop-number.invariant _ c.in_err-expect_end.field-0.0
    (omega arith) c.in_err-expect_end.ensures)

pub returns : goal.returns
returns g c =
    let gave = c.in_ok-expect_end.ensures in
    RunsCommands-end c.loop-number.invariant _ c.status-2.result (omega arith)
    c.status-2.ensures gave.0 gave.1
