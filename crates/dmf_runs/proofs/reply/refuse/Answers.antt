use Rattle.std.proofs.Common.{refl}
use Rattle.std.proofs.lemmas.Result.{err_from_is_err_and}
use Rattle.dmf_runs.proofs.reply.refuse.Goals as goal

pub returns-in_err-put_line : goal.returns-in_err-put_line
returns-in_err-put_line g c =
    let failed = err_from_is_err_and c.from_residual.result c.from_residual.ensures.1 in
    rw failed.1 (record { text = rw c.refused_line.ensures at c.in_err-put_line.ensures; refused = tt })

pub returns-clause-text : goal.returns-clause-text
returns-clause-text g c = rw c.refused_line.ensures at c.in_ok-put_line.ensures

pub returns-clause-refused : goal.returns-clause-refused
returns-clause-refused g c = refl
