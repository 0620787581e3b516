use Rattle.std.proofs.Common.{inl, inr, refl, subst, sym, arith}
use Rattle.dmf_vital.specs.declared.worst.Limits.{Limits}
use Rattle.dmf_vital.specs.Entering.{AreLargeWorst}
use Rattle.dmf_vital.specs.Rest.{AreThere}
use Rattle.dmf_vital.specs.Worst.{IsPairLossAmong}
use Rattle.dmf_vital.proofs.Entered.{worst-full}
use Rattle.dmf_vital.proofs.Lost.{if-ok}
use Rattle.dmf_vital.proofs.pairs.worst_pairs_among_watched.Goals as goal

pub guess_least-requires-clause-tried : goal.guess_least-requires-clause-tried
guess_least-requires-clause-tried g c = subst (AreThere c.args.state.now.network) (sym c.deref-3.ensures.value)
    (λ k d h. (c.in_ok-tried.ensures.worst.losses k d h).0.1.0)

pub returns-then-len-most : goal.returns-then-len-most
returns-then-len-most g c = worst-full (IsPairLossAmong c.args.state.now.network c.args.among.now)
    (record { most = c.args.most; least = c.in_ok-least.least }) c.in_ok-worst.worst.items c.in_ok-worst.ensures.worst (inr (omega (arith, c.len.ensures, c.if-len-most.true, c.in_ok-worst.worst.ok.0)))

pub returns-then-least-eq0 : goal.returns-then-least-eq0
returns-then-least-eq0 g c = worst-full (IsPairLossAmong c.args.state.now.network c.args.among.now)
    (record { most = c.args.most; least = c.in_ok-least.least }) c.in_ok-worst.worst.items c.in_ok-worst.ensures.worst (inl (omega (arith, c.if-least-eq0.true)))

pub returns : goal.returns
returns g c =
    let n = c.args.state.now.network in
    let limits : Limits = record { most = c.args.most; least = 0 } in
    if-ok c.list_worst-2.result (λ worst. AreLargeWorst (IsPairLossAmong n c.args.among.now) limits worst.items) _ c.list_worst-2.ensures.worst (λ worst are.
    worst-full (IsPairLossAmong n c.args.among.now) limits worst.items are (inl refl))
