use Rattle.std.proofs.lemmas.Result.{IfOk-weaker}
use Rattle.dmf_arguments.proofs.CommandLemmas.{line_with}
use Rattle.dmf_arguments.proofs.words.session.Goals as goal

pub returns : goal.returns
returns c =
    let brief = line_with c.in_ok-arg.ensures c.flag.ensures c.named.ensures in
    let cut = line_with c.in_ok-arg-2.ensures c.flag-2.ensures brief in
    let history = line_with c.in_ok-arg-3.ensures c.history.ensures cut in
    let progress = line_with c.in_ok-arg-4.ensures c.flag-3.ensures history in
    IfOk-weaker c.arg-5.result _ _ (λ made adds. line_with adds c.problem.ensures progress) c.arg-5.ensures
