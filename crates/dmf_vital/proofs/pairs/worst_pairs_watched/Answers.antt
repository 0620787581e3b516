use Rattle.std.proofs.Common.{◌≡◌, List, Bool, true, length, replicate, ap, ◌∙◌}
use Rattle.dmf_vital.specs.Worst.{AreWorst, IsPairLoss, IsPairLossAmong}
use Rattle.dmf_vital.proofs.Entered.{among-all, worst-same_losses}
use Rattle.dmf_vital.proofs.Lost.{if-ok}
use Rattle.dmf_vital.proofs.pairs.worst_pairs_watched.Goals as goal

pub returns : goal.returns
returns g c =
    let n = c.args.state.now.network in
    let all : List Bool = c.deref.result.now in
    let is_all : all ≡ replicate (length n.arcs) true =
    c.deref.ensures.value ∙ c.in_ok-all.ensures.items_if_clones_equal (λ y e. e) ∙ ap (λ arcs. replicate (length arcs) true) c.arcs.ensures.value in
    if-ok c.worst_pairs_among_watched.result (λ worst. AreWorst (IsPairLossAmong n all) c.args.most worst.items) _ c.worst_pairs_among_watched.ensures (λ worst are.
    worst-same_losses (IsPairLossAmong n all) (IsPairLoss n) c.args.most worst.items (λ w is. is.0) (λ w is. (is, among-all n all w.number is_all is.1.0, among-all n all w.second is_all is.1.1)) are)
