use Rattle.std.proofs.Common.{ℕ, ◌≡◌, ◌+◌, ◌-◌, length, ap, subst, arith}
use Rattle.dmf_state.proofs.ChangedArc.{has_arc-within}
use Rattle.dmf_vital.specs.Entering.{AreWorstUpTo}
use Rattle.dmf_vital.specs.Worst.{IsArcLossAmong}
use Rattle.dmf_vital.proofs.Entered.{up_to-single, worst-large}
use Rattle.dmf_vital.proofs.worst.list_large_arcs.Goals as goal

pub consider_arc-requires-clause-worst : goal.consider_arc-requires-clause-worst
consider_arc-requires-clause-worst g c =
    let back : c.loop-k.k ≡ c.loop-k.k + 1 - 1 = omega arith in
    subst (λ (m : ℕ). AreWorstUpTo (IsArcLossAmong c.args.state.now.network c.args.among.now) m 0 c.args.limits c.loop-k.worst.items) back c.loop-k.invariant.worst

pub returns : goal.returns
returns g c =
    let n = c.args.state.now.network in
    record {
      worst = worst-large (IsArcLossAmong n c.args.among.now) c.loop-k.k 0 c.args.limits c.loop-k.worst.items (λ w is. up_to-single c.loop-k.k w is.0.0
          (omega (arith, (has_arc-within n w.number is.0.1.0).0, (has_arc-within n w.number is.0.1.0).1, c.loop-k-test.false, ap length c.arcs-k-end.ensures.value)))
          c.loop-k.invariant.worst;
      ready = c.loop-k.invariant.ready;
      ranks = c.loop-k.invariant.ranks;
    }
