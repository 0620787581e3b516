use Rattle.std.proofs.Common.{ℕ, ◌≡◌, ◌≢◌, ◌<◌, length, get_or, set, ap, sym, ◌∙◌, subst, arith, ⊎_elim, true}
use Rattle.std.proofs.lemmas.Bool.{cases_eq}
use Rattle.std.proofs.lemmas.List.{get_or-set_same, get_or-set_other, length-set}
use Rattle.std.proofs.lemmas.List.Elements.{All-get_or}
use Rattle.dmf_state.specs.Network.{has_arc}
use Rattle.dmf_vital.specs.Loss.{IsLossOfArc}
use Rattle.dmf_vital.specs.Ranks.{AreRanks}
use Rattle.dmf_vital.proofs.loss.arc_losses_of_watched.Goals as goal

pub loop-k-preserved : goal.loop-k-preserved
loop-k-preserved g c =
    let n = c.args.state.now.network in
    let k : ℕ = c.loop-k.k in
    let arcs = c.args.arcs.now in
    let old = c.loop-k.losses.items in
    let loss : ℕ = c.in_ok-losses-2.field-0 in
    let inside : k < length old = omega (arith, c.loop-k-test.true, c.loop-k.invariant.one_each) in
    record {
      ready = c.loss_of_arc.ensures.ready;
      ranks = subst (AreRanks n c.loss_of_arc.new.rerouting.flows.items) c.deref.ensures.value c.loss_of_arc.ensures.ranks;
      one_each = length-set old k loss ∙ c.loop-k.invariant.one_each;
      losses = λ i h. ⊎_elim
          (λ (here : i ≡ k).
          let read : get_or (set old k loss) i 0 ≡ loss = ap (λ m. get_or (set old k loss) m 0) here ∙ get_or-set_same old k loss 0 inside in
          subst (IsLossOfArc n (get_or arcs i 0)) (sym read) (subst (λ m. IsLossOfArc n (get_or arcs m 0) loss) (sym here) c.in_ok-losses-2.ensures.loss))
          (λ (before : i ≢ k).
          subst (IsLossOfArc n (get_or arcs i 0)) (sym (get_or-set_other old k i loss 0 before)) (c.loop-k.invariant.losses i (omega (arith, h, before))))
          (cases_eq i k);
    }

pub loss_of_arc-requires-clause-is_there : goal.loss_of_arc-requires-clause-is_there
loss_of_arc-requires-clause-is_there g c = All-get_or (λ j. has_arc c.args.state.now.network j ≡ true) c.args.arcs.now c.loop-k.k 0 (omega (arith, c.loop-k-test.true)) c.requires.there

pub returns-clause-losses : goal.returns-clause-losses
returns-clause-losses g c = λ k h. c.loop-k.invariant.losses k (omega (arith, h, c.loop-k-test.false, c.loop-k.invariant.one_each))
