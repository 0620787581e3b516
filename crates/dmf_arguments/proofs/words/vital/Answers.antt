use Rattle.std.proofs.lemmas.Result.{IfOk-weaker}
use Rattle.dmf_arguments.proofs.CommandLemmas.{line_with}
use Rattle.dmf_arguments.proofs.words.vital.Goals as goal

pub returns : goal.returns
returns c =
    let nodes = line_with c.in_ok-arg.ensures c.flag.ensures c.named.ensures in
    let pairs = line_with c.in_ok-arg-2.ensures c.flag-2.ensures nodes in
    let progress = line_with c.in_ok-arg-3.ensures c.flag-3.ensures pairs in
    let second = line_with c.in_ok-arg-4.ensures c.flag-4.ensures progress in
    IfOk-weaker c.arg-5.result _ _ (λ made adds. line_with adds c.worst.ensures second) c.arg-5.ensures
