use Rattle.std.proofs.Common.{[], Ok, Err, refl, true, false}
use Rattle.std.proofs.KnownBytes.{Appends-nil}
use Rattle.std.proofs.lemmas.Result.{err_from_is_err_and}
use Rattle.dmf_session.proofs.Replying.{answers-reply}
use Rattle.dmf_streams.proofs.ReplyLemmas.{Writes-flushed}
use Rattle.dmf_text.specs.declared.writer.WriteFault.{WriteFault}
use Rattle.dmf_runs.specs.declared.reply.Answer.{Answer}
use Rattle.dmf_runs.specs.declared.reply.Answer.TheVariants.{Accepted}
use Rattle.dmf_runs.specs.Run.{refused_text}
use Rattle.dmf_runs.proofs.session.SessionRun.answer.Goals as goal

-- the writer was not called
pub returns-in-Ok-None-clause-silent : goal.returns-in-Ok-None-clause-silent
returns-in-Ok-None-clause-silent g c none = (refl, refl)

pub returns-in-Ok-None-clause-line : goal.returns-in-Ok-None-clause-line
returns-in-Ok-None-clause-line g c =
    let none = rw c.in-Ok-None.is at c.in-Ok-None.field-0-is in
    rw (c.in-Ok-None.is, none) ([], false, (refl, refl, refl), (Appends-nil _, refl), refl)

pub returns-in-Err : goal.returns-in-Err
returns-in-Err g c =
    let text = refused_text c.args.line.number c.in-Err.refusal in
    rw c.in-Err.is (record { line = (text, true, (refl, refl, refl), c.refuse.ensures.text, c.refuse.ensures.refused); silent = λ none. absurd (cc) })

pub write_reply-requires : goal.write_reply-requires
write_reply-requires g c =
    let timeline = g.H.History.timeline in
    answers-reply c.args.self.wanted.cut (timeline c.args.session.now) c.in-Ok-Some.command c.in-Ok.reply (timeline c.step_watched.new.self)
    c.in-Ok.ensures.answer

pub returns-in_err-write_reply-in-Ok : goal.returns-in_err-write_reply-in-Ok
returns-in_err-write_reply-in-Ok g c =
    let failed = err_from_is_err_and c.from_residual.result c.from_residual.ensures.1 in
    let some = rw c.in-Ok-Some.is at c.in-Ok-Some.field-0-is in
    rw (failed.1, c.in-Ok-Some.is, some) (record {
      line = (
        _,
        false,
        (Ok c.in-Ok.reply, c.in-Ok.ensures.answer, (_, c.present.ensures.state, refl, refl)),
        c.in_err-write_reply-in-Ok.ensures,
        tt,
      );
      silent = λ none. absurd (cc);
    })

pub returns-in_err-flush-in-Ok : goal.returns-in_err-flush-in-Ok
returns-in_err-flush-in-Ok g c =
    let failed = err_from_is_err_and c.from_residual-in_err-flush-in-Ok.result c.from_residual-in_err-flush-in-Ok.ensures.1 in
    let some = rw c.in-Ok-Some.is at c.in-Ok-Some.field-0-is in
    let writes = Writes-flushed {V = Answer} _ (g.W.Sink.written c.write_reply.new.out) (g.W.Sink.written c.flush.new.out) (Err failed.0) _
    c.in_ok-write_reply-in-Ok.ensures c.in_err-flush-in-Ok.ensures in
    rw (failed.1, c.in-Ok-Some.is, some) (record {
      line = (_, false, (Ok c.in-Ok.reply, c.in-Ok.ensures.answer, (_, c.present.ensures.state, refl, refl)), writes, tt);
      silent = λ none. absurd (cc);
    })

pub returns-in_ok-flush-in-Ok : goal.returns-in_ok-flush-in-Ok
returns-in_ok-flush-in-Ok g c =
    let some = rw c.in-Ok-Some.is at c.in-Ok-Some.field-0-is in
    let writes = Writes-flushed {E = WriteFault} _ (g.W.Sink.written c.write_reply.new.out) (g.W.Sink.written c.flush.new.out) (Ok Accepted) _
    c.in_ok-write_reply-in-Ok.ensures c.in_ok-flush-in-Ok.ensures in
    rw (c.in-Ok-Some.is, some) (record {
      line = (_, false, (Ok c.in-Ok.reply, c.in-Ok.ensures.answer, (_, c.present.ensures.state, refl, refl)), writes, refl);
      silent = λ none. absurd (cc);
    })

pub returns-in-Err-step_watched-clause-line : goal.returns-in-Err-step_watched-clause-line
returns-in-Err-step_watched-clause-line g c =
    let refusal = c.in-Err-step_watched.refusal in
    let some = rw c.in-Ok-Some.is at c.in-Ok-Some.field-0-is in
    let refused = c.refuse-in-Err-step_watched.ensures in
    rw (c.in-Ok-Some.is, some) (
      refused_text c.args.line.number refusal,
      true,
      (Err refusal, c.in-Err-step_watched.ensures.answer, (refl, refl)),
      refused.text,
      refused.refused,
    )
