use Rattle.std.proofs.Common.{◌∙◌, refl, subst}
use Rattle.std.proofs.lemmas.Result.{err_from_is_err_and}
use Rattle.dmf_runs.specs.Streams.{streams_of}
use Rattle.dmf_runs.specs.Outcome.{RunsCommandsWith}
use Rattle.dmf_streams.proofs.Giving.{given}
use Rattle.dmf_runs.proofs.SessionLemmas.{answered-by_run, answered-unread}
use Rattle.dmf_runs.proofs.session.run_session_watched.Goals as goal

pub returns-in_err-state : goal.returns-in_err-state
returns-in_err-state g c =
    let failed = err_from_is_err_and c.from_residual.result c.from_residual.ensures.1 in
    rw (failed.1, failed.2) (given c.in_err-state.ensures (λ text read.
    answered-unread c.args.wanted c.args.bound _ _ _ _ text c.in_err-state.field-0.0 read refl))

pub returns : goal.returns
returns g c =
    let old = streams_of (g.C.Source.left c.args.commands.now) (g.W.Sink.written c.args.out.now) in
    let new = streams_of (g.C.Source.left c.run_commands_watched.new.commands) (g.W.Sink.written c.run_commands_watched.new.out) in
    let runs = subst (λ t. RunsCommandsWith c.args.wanted t old new c.run_commands_watched.result)
    (c.new.ensures ∙ c.with_bound-history.ensures) c.run_commands_watched.ensures in
    given c.in_ok-state.ensures (λ text read.
    answered-by_run c.args.wanted c.args.bound _ _ old new text _ (record { state = c.in_ok-state.state; problem = read; runs = runs }))
