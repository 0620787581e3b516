use Rattle.std.proofs.Common.{ℕ, ◌≡◌, ◌+◌, ◌-◌, List, ap, length, subst, sym, ◌∙◌, arith}
use Rattle.std.specs.List.{AllPairs}
use Rattle.dmf_state.proofs.ChangedArc.{has_arc-within}
use Rattle.dmf_vital.specs.declared.worst.NumberedLoss.{NumberedLoss}
use Rattle.dmf_vital.specs.Entering.{AreWorstUpTo, IsShutOut}
use Rattle.dmf_vital.specs.Worst.{IsPairLossAmong, IsWorse}
use Rattle.dmf_vital.proofs.Both.{first-out}
use Rattle.dmf_vital.proofs.Entered.{first-next, next-none, none-next, not-among, wider-first, wider-none}
use Rattle.dmf_vital.proofs.pairs.consider_first.Goals as goal

pub returns-then-not-is_among : goal.returns-then-not-is_among
returns-then-not-is_among g c =
    let n = c.args.state.now.network in
    let i : ℕ = c.args.i in
    record {
      worst = next-none (IsPairLossAmong n c.args.among.now) i 0 (i + 1) 0 c.args.limits c.args.worst.now.items (wider-first i 0) c.requires.worst (λ w next.
          let same = first-next i 0 w next.0.0.0 next.1 next.2 in
          not-among c.args.among.now w.number i same.0 next.0.1 (sym c.is_among.ensures ∙ c.if-not-is_among.true));
      whole = c.requires.whole;
    }

pub may_enter-requires-clause-order : goal.may_enter-requires-clause-order
may_enter-requires-clause-order g c = subst (λ (l : List NumberedLoss). AllPairs IsWorse l) (sym c.deref.ensures.value) c.requires.worst.in_order

pub may_enter-requires-2-clause-order : goal.may_enter-requires-2-clause-order
may_enter-requires-2-clause-order g c = subst (λ (l : List NumberedLoss). AllPairs IsWorse l) (sym c.deref-2.ensures.value) c.requires.worst.in_order

pub returns-then-not-may_enter : goal.returns-then-not-may_enter
returns-then-not-may_enter g c =
    let out : IsShutOut c.largest_beside.result c.args.limits c.args.worst.now.items =
    subst (IsShutOut c.largest_beside.result c.args.limits) c.deref.ensures.value (c.may_enter.ensures c.if-not-may_enter.true) in
    record {
      worst = first-out c.args.state.now.network c.args.among.now c.args.i c.args.limits c.args.worst.now.items c.largest_beside.result c.requires.worst
          c.largest_beside.ensures out;
      whole = c.requires.whole;
    }

pub returns-then-not-may_enter-2 : goal.returns-then-not-may_enter-2
returns-then-not-may_enter-2 g c =
    let out : IsShutOut c.largest_beside-2.result c.args.limits c.args.worst.now.items =
    subst (IsShutOut c.largest_beside-2.result c.args.limits) c.deref-2.ensures.value (c.may_enter-2.ensures c.if-not-may_enter-2.true) in
    record {
      worst = first-out c.args.state.now.network c.args.among.now c.args.i c.args.limits c.args.worst.now.items c.largest_beside-2.result c.requires.worst
          c.largest_beside-2.ensures out;
      whole = c.in_ok-move_off_arc.ensures;
    }

pub loop-k-init : goal.loop-k-init
loop-k-init g c = record {
  rest = c.in_ok-rest.ensures.rest;
  without = c.in_ok-rest.ensures.same;
  worst = next-none (IsPairLossAmong c.args.state.now.network c.args.among.now) c.args.i 0 c.args.i c.args.i c.args.limits c.args.worst.now.items (wider-none c.args.i c.args.i)
      c.requires.worst (λ w next. none-next c.args.i w next.0.0.0 next.1 next.2);
}

pub consider_second-requires-clause-worst : goal.consider_second-requires-clause-worst
consider_second-requires-clause-worst g c =
    let back : c.loop-k.k ≡ c.loop-k.k + 1 - 1 = omega arith in
    subst (λ (m : ℕ). AreWorstUpTo (IsPairLossAmong c.args.state.now.network c.args.among.now) c.loop-k.rest.without m c.args.limits c.loop-k.worst.items) back
    (subst (λ (m : ℕ). AreWorstUpTo (IsPairLossAmong c.args.state.now.network c.args.among.now) m c.loop-k.k c.args.limits c.loop-k.worst.items) (sym c.loop-k.invariant.without)
    c.loop-k.invariant.worst)

pub returns : goal.returns
returns g c =
    let n = c.args.state.now.network in
    let i : ℕ = c.args.i in
    let k : ℕ = c.loop-k.k in
    record {
      worst = next-none (IsPairLossAmong n c.args.among.now) i k (i + 1) 0 c.args.limits c.loop-k.worst.items (wider-first i k) c.loop-k.invariant.worst (λ w next.
          let same = first-next i k w next.0.0.0 next.1 next.2 in
          let at = has_arc-within n w.second next.0.0.1.1 in
          omega (arith, at.1, at.0, same.1, c.loop-k-test.false, ap length c.arcs-k-end.ensures.value));
      whole = c.in_ok-move_off_arc.ensures;
    }
