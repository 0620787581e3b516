use Rattle.std.proofs.Common.{ℕ, ◌≡◌, ◌≢◌, ◌<◌, length, get_or, set, ap, sym, ◌∙◌, subst, arith, ⊎_elim}
use Rattle.std.proofs.lemmas.Bool.{cases_eq}
use Rattle.std.proofs.lemmas.List.{get_or-set_same, get_or-set_other, length-set}
use Rattle.dmf_vital.specs.Loss.{IsLossOfPair}
use Rattle.dmf_vital.proofs.pairs.pair_losses_watched.Goals as goal

pub loop-k-preserved : goal.loop-k-preserved
loop-k-preserved g c =
    let n = c.args.state.now.network in
    let k : ℕ = c.loop-k.k in
    let old = c.loop-k.losses.items in
    let loss : ℕ = c.in_ok-losses-2.field-0 in
    let firsts = c.args.firsts.now in
    let seconds = c.args.seconds.now in
    let inside : k < length old = omega (arith, c.loop-k-test.true, c.loop-k.invariant.one_each) in
    let own : IsLossOfPair n (get_or firsts k 0) (get_or seconds k 0) loss =
    subst (λ m. IsLossOfPair n m (get_or seconds k 0) loss) c.in_ok-rest-2.ensures.same c.in_ok-losses-2.ensures.loss in
    record {
      whole = c.in_ok-rest-2.ensures.whole;
      rest = c.loss_with.ensures.rest;
      one_each = length-set old k loss ∙ c.loop-k.invariant.one_each;
      losses = λ i h. ⊎_elim
          (λ (here : i ≡ k).
          let read : get_or (set old k loss) i 0 ≡ loss = ap (λ m. get_or (set old k loss) m 0) here ∙ get_or-set_same old k loss 0 inside in
          subst (IsLossOfPair n (get_or firsts i 0) (get_or seconds i 0)) (sym read)
          (subst (λ m. IsLossOfPair n (get_or firsts m 0) (get_or seconds m 0) loss) (sym here) own))
          (λ (before : i ≢ k).
          subst (IsLossOfPair n (get_or firsts i 0) (get_or seconds i 0)) (sym (get_or-set_other old k i loss 0 before))
          (c.loop-k.invariant.losses i (omega (arith, h, before))))
          (cases_eq i k);
    }

pub returns-clause-losses : goal.returns-clause-losses
returns-clause-losses g c = λ k h. c.loop-k.invariant.losses k (omega (arith, h, c.loop-k-test.false, c.loop-k.invariant.one_each))
