use Rattle.std.proofs.Common.{ℕ, ◌≡◌, ◌≢◌, ◌<◌, length, get_or, set, ap, sym, ◌∙◌, subst, arith, ⊎_elim}
use Rattle.std.proofs.lemmas.Bool.{cases_eq}
use Rattle.std.proofs.lemmas.List.{get_or-set_same, get_or-set_other, length-set}
use Rattle.dmf_state.specs.Arc.{no_arc}
use Rattle.dmf_vital.specs.Extended.{IsPlaced}
use Rattle.dmf_vital.proofs.Extending.{placed-kept}
use Rattle.dmf_vital.proofs.gain.extend.Goals as goal

pub loop-k-preserved : goal.loop-k-preserved
loop-k-preserved c =
    let n = c.args.state.now.network in
    let k : ℕ = c.loop-k.k in
    let old = c.loop-k.firsts.items in
    let first : ℕ = c.in_ok-firsts-2.field-0 in
    let arcs = c.args.arcs.now in
    let before = c.loop-k.more.network in
    let after = c.place.new.more.network in
    let inside : k < length old = omega (arith, c.loop-k-test.true, c.loop-k.invariant.one_each) in
    record {
      extended = c.in_ok-firsts-2.ensures.extended;
      one_each = length-set old k first ∙ c.loop-k.invariant.one_each;
      placed = λ i h. ⊎_elim
          (λ (here : i ≡ k).
          let read : get_or (set old k first) i 0 ≡ first = ap (λ m. get_or (set old k first) m 0) here ∙ get_or-set_same old k first 0 inside in
          let own : IsPlaced n after (get_or arcs k no_arc) first = c.in_ok-firsts-2.ensures.placed in
          subst (IsPlaced n after (get_or arcs i no_arc)) (sym read) (subst (λ m. IsPlaced n after (get_or arcs m no_arc) first) (sym here) own))
          (λ (apart : i ≢ k).
          subst (IsPlaced n after (get_or arcs i no_arc)) (sym (get_or-set_other old k i first 0 apart))
          (placed-kept n before after (get_or arcs i no_arc) (get_or old i 0) c.in_ok-firsts-2.ensures.keeps
          (c.loop-k.invariant.placed i (omega (arith, h, apart)))))
          (cases_eq i k);
    }
