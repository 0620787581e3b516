use Rattle.std.proofs.Common.{◌≡◌, refl, ap, ◌∙◌}
use Rattle.std.specs.Prelude.{nat_abs}
use Rattle.std.proofs.lemmas.Result.{err_from_is_err_and}
use Rattle.dmf_solving.specs.CheckRun.{verdict_line, verdict_text}
use Rattle.dmf_solving.proofs.check.tell_verdict.Given.{Over}
use Rattle.dmf_solving.proofs.check.tell_verdict.Goals as goal
use Rattle.dmf_solving.proofs.check.tell_verdict.Goals.{After-put_line}

-- the state's value is the value of its flow
line-is : (g : Over) (c : After-put_line g) → c.verdict_line.result ≡ verdict_text c.args.state.now c.args.greatest
line-is g c = c.verdict_line.ensures ∙ ap (verdict_line c.args.greatest) (ap nat_abs c.value.ensures.value)

pub returns-in_err-put_line : goal.returns-in_err-put_line
returns-in_err-put_line g c =
    let failed = err_from_is_err_and c.from_residual.result c.from_residual.ensures.1 in
    let text = line-is g (goal.at.returns-in_err-put_line g c).After-put_line in
    rw (failed.1, failed.2) (record {
      told = record { greatest = c.args.greatest; verdict = c.requires; writes = rw text at c.in_err-put_line.ensures; status = tt };
      write = refl;
    })

pub returns : goal.returns
returns g c =
    let text = line-is g (goal.at.returns g c).After-put_line in
    record {
      told = record { greatest = c.args.greatest; verdict = c.requires; writes = rw text at c.in_ok-put_line.ensures; status = c.status_of_verdict.ensures };
      write = tt;
    }
