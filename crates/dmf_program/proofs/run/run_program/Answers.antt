use Rattle.std.proofs.Common.{List, ℕ, Ok, Err, inl, inr, refl, subst}
use Rattle.std.proofs.lemmas.Result.{err_from_is_err_and}
use Rattle.dmf_program.proofs.run.run_program.Goals as goal

pub returns-in-Solve : goal.returns-in-Solve
returns-in-Solve g c =
    rw c.in-Solve.is (record { outcome = c.run_solving.result; runs = c.run_solving.ensures; result_is = c.ended.ensures })

pub returns-in_ok-file-in-Session : goal.returns-in_ok-file-in-Session
returns-in_ok-file-in-Session g c =
    let from = g.P.Source.left c.in_ok-file-in-Session.file in
    rw c.in-Session.is (inl (record {
      from = from;
      to = g.P.Source.left c.run_session_watched.new.problem;
      opened = subst (λ (path : List ℕ). g.F.Files.opens c.args.files.now path (Ok from)) c.as_str.ensures.value c.in_ok-file-in-Session.ensures;
      runs = record { outcome = c.run_session_watched.result; runs = c.run_session_watched.ensures; result_is = c.ended-in-Session.ensures };
    }))

pub returns-in_err-file-in-Session : goal.returns-in_err-file-in-Session
returns-in_err-file-in-Session g c =
    let fault = c.in_err-file-in-Session.field-0.0 in
    let failed = err_from_is_err_and c.from_residual.result c.from_residual.ensures.1 in
    rw (c.in-Session.is, failed.1, failed.2) (inr (record {
      fault = fault;
      refused = subst (λ (path : List ℕ). g.F.Files.opens c.args.files.now path (Err fault)) c.as_str.ensures.value c.in_err-file-in-Session.ensures;
      result_is = refl;
      untouched = refl;
    }))

pub returns-in_ok-problem-in-Check : goal.returns-in_ok-problem-in-Check
returns-in_ok-problem-in-Check g c =
    let from = g.P.Source.left c.in_ok-problem-in-Check.problem in
    rw c.in-Check.is (inl (record {
      from = from;
      to = g.P.Source.left c.run_check.new.problem;
      opened = subst (λ (path : List ℕ). g.F.Files.opens c.args.files.now path (Ok from)) c.as_str-in-Check.ensures.value c.in_ok-problem-in-Check.ensures;
      runs = record { outcome = c.run_check.result; runs = c.run_check.ensures; result_is = c.ended-in-Check.ensures };
    }))

pub returns-in_err-problem-in-Check : goal.returns-in_err-problem-in-Check
returns-in_err-problem-in-Check g c =
    let fault = c.in_err-problem-in-Check.field-0.0 in
    let failed = err_from_is_err_and c.from_residual-in_err-problem-in-Check.result c.from_residual-in_err-problem-in-Check.ensures.1 in
    rw (c.in-Check.is, failed.1, failed.2) (inr (record {
      fault = fault;
      refused = subst (λ (path : List ℕ). g.F.Files.opens c.args.files.now path (Err fault)) c.as_str-in-Check.ensures.value c.in_err-problem-in-Check.ensures;
      result_is = refl;
      untouched = refl;
    }))

pub returns-in-Vital : goal.returns-in-Vital
returns-in-Vital g c =
    rw c.in-Vital.is (record { outcome = c.run_valuing.result; runs = c.run_valuing.ensures; result_is = c.ended-in-Vital.ensures })
