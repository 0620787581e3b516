use Rattle.std.proofs.Common.{◌+◌, inl, ap, length, arith}
use Rattle.dmf_state.proofs.ChangedArc.{has_arc-within}
use Rattle.dmf_vital.specs.Worst.{IsPairLossAmong}
use Rattle.dmf_vital.proofs.Entered.{worst-large}
use Rattle.dmf_vital.proofs.pairs.list_worst.Goals as goal

pub returns : goal.returns
returns g c =
    let n = c.args.state.now.network in
    record {
      whole = c.loop-k.invariant.whole;
      worst = worst-large (IsPairLossAmong n c.args.among.now) (c.loop-k.k + 1) 0 c.args.limits c.loop-k.worst.items (λ w is.
          let at = has_arc-within n w.number is.0.1.0 in
          inl (omega (arith, at.0, at.1, c.loop-k-test.false, ap length c.arcs-k-end.ensures.value))) c.loop-k.invariant.worst;
    }
