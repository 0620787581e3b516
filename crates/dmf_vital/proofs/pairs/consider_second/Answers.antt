use Rattle.std.proofs.Common.{ℕ, ◌-◌, List, refl, subst, sym, ◌∙◌}
use Rattle.std.specs.List.{AllPairs}
use Rattle.dmf_state.proofs.ChangedArc.{has_arc-within}
use Rattle.dmf_vital.specs.declared.worst.NumberedLoss.{NumberedLoss}
use Rattle.dmf_vital.specs.Entering.{IsConsidered, IsShutOut}
use Rattle.dmf_vital.specs.Loss.{IsLossOfPair}
use Rattle.dmf_vital.specs.Without.{without_pair}
use Rattle.dmf_vital.specs.Worst.{IsPairLossAmong, IsWorse}
use Rattle.dmf_vital.proofs.Both.{pair-of}
use Rattle.dmf_vital.proofs.Entered.{next-considered, next-none, next-out, not-among, pair-next, past-pair, same-loss, up_to-pair, wider-second}
use Rattle.dmf_vital.proofs.Values.{one-loss}
use Rattle.dmf_vital.proofs.pairs.consider_second.Goals as goal

pub may_enter-requires-clause-order : goal.may_enter-requires-clause-order
may_enter-requires-clause-order c = subst (λ (l : List NumberedLoss). AllPairs IsWorse l) (sym c.deref.ensures.value) c.requires.worst.in_order

pub returns-then-not-is_among-clause-worst : goal.returns-then-not-is_among-clause-worst
returns-then-not-is_among-clause-worst c =
    let n = c.args.state.now.network in
    let i : ℕ = c.args.rest.now.without in
    let j : ℕ = c.args.j in
    let from_one = (has_arc-within n j c.requires.is_there).0 in
    next-none (IsPairLossAmong n c.args.among.now) i (j - 1) i j c.args.limits c.args.worst.now.items (wider-second i j) c.requires.worst (λ w next.
    let same = pair-next i j from_one w next.1 next.2 in
    not-among c.args.among.now w.second j same.1 next.0.2 (sym c.is_among.ensures ∙ c.if-not-is_among.true))

pub returns-then-not-may_enter-clause-worst : goal.returns-then-not-may_enter-clause-worst
returns-then-not-may_enter-clause-worst c =
    let n = c.args.state.now.network in
    let i : ℕ = c.args.rest.now.without in
    let j : ℕ = c.args.j in
    let from_one = (has_arc-within n j c.requires.is_there).0 in
    let out : IsShutOut c.largest_with.result c.args.limits c.args.worst.now.items =
    subst (IsShutOut c.largest_with.result c.args.limits) c.deref.ensures.value (c.may_enter.ensures c.if-not-may_enter.true) in
    next-out (IsPairLossAmong n c.args.among.now) i (j - 1) i j c.args.limits c.args.worst.now.items (wider-second i j) c.requires.worst c.largest_with.result out (λ w next.
    let same = pair-next i j from_one w next.1 next.2 in
    c.largest_with.ensures w.loss (pair-of n w i j same.0 same.1 next.0.0.1))

pub returns-clause-worst : goal.returns-clause-worst
returns-clause-worst c =
    let n = c.args.state.now.network in
    let i : ℕ = c.args.rest.now.without in
    let j : ℕ = c.args.j in
    let from_one = (has_arc-within n j c.requires.is_there).0 in
    let own : IsLossOfPair n i j c.in_ok-loss.loss = c.in_ok-loss.ensures.loss in
    let one : NumberedLoss = record { number = i; second = j; loss = c.in_ok-loss.loss } in
    let considered : IsConsidered c.args.limits one c.args.worst.now.items c.consider.new.worst.items = c.in_ok-consider.ensures in
    next-considered (IsPairLossAmong n c.args.among.now) i (j - 1) i j c.args.limits c.args.worst.now.items (wider-second i j) c.requires.worst one c.consider.new.worst.items
    (((c.requires.after, own), c.requires.first, sym c.is_among.ensures ∙ c.if-not-is_among.false), up_to-pair i j one refl refl, past-pair i j from_one one refl refl) (λ w next.
    let same = pair-next i j from_one w next.1 next.2 in
    same-loss w one same.0 same.1 (one-loss n (without_pair n i j) w.loss c.in_ok-loss.loss (pair-of n w i j same.0 same.1 next.0.0.1).2 own.2)) considered
