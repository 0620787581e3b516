use Rattle.std.proofs.Common.{◌≡◌, [], Result, Ok, Err, IsOkUnless, inl, inr, refl, sym, ap, subst}
use Rattle.std.proofs.KnownBytes.{Consumes-nil}
use Rattle.std.proofs.lemmas.Result.{err_from_is_err_and}
use Rattle.dmf_state.specs.NetworkState.{NetworkState}
use Rattle.dmf_streams.specs.declared.fault.Status.{Status}
use Rattle.dmf_streams.specs.declared.fault.EngineFault.{EngineFault}
use Rattle.dmf_streams.specs.declared.fault.EngineFault.TheVariants as fault
use Rattle.dmf_solving.specs.CheckRun.{Checked, CheckAnswered, ReadsSolution, WritesVerdict}
use Rattle.dmf_streams.specs.Reading.{ReadsProblem}
use Rattle.dmf_streams.proofs.Giving.{given}
use Rattle.dmf_solving.proofs.check.run_check.Goals as goal

-- a run that stops at the problem
no-problem : (run : Checked) (told : EngineFault) → ReadsProblem run.problem_old run.problem_new run.problem_text (Err told)
    → run.solution_new ≡ run.solution_old → run.new ≡ run.old → CheckAnswered run (Err told)
no-problem run fault.Write read unread unwritten = absurd read
no-problem run (fault.Solution f) read unread unwritten = absurd read
no-problem run fault.NoMemory read unread unwritten = record { problem_mark = read; solution_mark = ap (λ r. r.has_failed) unread; unwritten = unwritten }
no-problem run told read unread unwritten = inl (record { problem = read; unread = unread; unwritten = unwritten })

-- a run that stops at the solution
no-solution : (run : Checked) (s : NetworkState) (told : EngineFault) → ReadsProblem run.problem_old run.problem_new run.problem_text (Ok s)
    → ReadsSolution s run.solution_old run.solution_new run.solution_text (Err told) → run.new ≡ run.old → CheckAnswered run (Err told)
no-solution run s fault.Write problem read unwritten = absurd read
no-solution run s (fault.Problem f) problem read unwritten = absurd read
no-solution run s fault.NoMemory problem read unwritten = record { problem_mark = problem.0.mark; solution_mark = read; unwritten = unwritten }
no-solution run s told problem read unwritten = inr (record { state = s; problem = problem; solution = read; unwritten = unwritten })

-- a run that wrote its verdict, or whose writer failed
verdict-told : (run : Checked) (result : Result Status EngineFault) → IsOkUnless result fault.Write → WritesVerdict run result → CheckAnswered run result
verdict-told run (Ok status) write told = told
verdict-told run (Err e) write told = subst (λ e. CheckAnswered run (Err e)) (sym write) (subst (λ e. WritesVerdict run (Err e)) write told)

pub returns-in_err-state : goal.returns-in_err-state
returns-in_err-state g c =
    let failed = err_from_is_err_and c.from_residual.result c.from_residual.ensures.1 in
    rw (failed.1, failed.2) (given c.in_err-state.ensures (λ text problem.
    record { text = []; consumes = Consumes-nil _; is_so = no-problem _ c.in_err-state.field-0.0 problem refl refl }))

pub returns-in_err-solved : goal.returns-in_err-solved
returns-in_err-solved g c =
    let failed = err_from_is_err_and c.from_residual-in_err-solved.result c.from_residual-in_err-solved.ensures.1 in
    rw (failed.1, failed.2) (given c.in_ok-state.ensures (λ text problem. given c.in_err-solved.ensures (λ more solution.
    no-solution _ c.in_ok-state.state c.in_err-solved.field-0.0 problem solution refl)))

pub returns-in_err-greatest : goal.returns-in_err-greatest
returns-in_err-greatest g c =
    let failed = err_from_is_err_and c.from_residual-in_err-greatest.result c.from_residual-in_err-greatest.ensures.1 in
    rw (failed.1, failed.2) (given c.in_ok-state.ensures (λ text problem. given c.in_ok-solved.ensures (λ more solution.
    record { problem_mark = problem.0.mark; solution_mark = solution.0.mark; unwritten = refl })))

pub returns : goal.returns
returns g c =
    given c.in_ok-state.ensures (λ text problem. given c.in_ok-solved.ensures (λ more solution.
    verdict-told _ c.tell_verdict.result c.tell_verdict.ensures.write (record {
      state = c.in_ok-state.state;
      problem = problem;
      solved = c.in_ok-solved.solved;
      solution = solution;
      told = c.tell_verdict.ensures.told;
    })))
