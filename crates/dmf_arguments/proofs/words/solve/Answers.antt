use Rattle.std.proofs.lemmas.Result.{IfOk-weaker}
use Rattle.dmf_arguments.proofs.CommandLemmas.{line_with}
use Rattle.dmf_arguments.proofs.words.solve.Goals as goal

pub returns : goal.returns
returns c =
    let any = line_with c.in_ok-arg.ensures c.flag.ensures c.named.ensures in
    let brief = line_with c.in_ok-arg-2.ensures c.flag-2.ensures any in
    let cut = line_with c.in_ok-arg-3.ensures c.flag-3.ensures brief in
    IfOk-weaker c.arg-4.result _ _ (λ made adds. line_with adds c.flag-4.ensures cut) c.arg-4.ensures
