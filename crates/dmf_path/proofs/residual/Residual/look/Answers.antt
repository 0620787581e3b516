use Rattle.std.proofs.Common.{◌≡◌, ◌<◌, get_or, inl, inr, length, sym, subst, ◌∙◌, arith}
use Rattle.std.proofs.lemmas.Bool.{cases_eq}
use Rattle.std.proofs.lemmas.List.{get_or_default}
use Rattle.dmf_path.specs.Astray.{IsAstray}
use Rattle.dmf_path.proofs.residual.Residual.look.Goals as goal
use Rattle.dmf_path.proofs.residual.Residual.look.Goals.{then-is_admissible+else-may_lead, else-is_admissible}

pub loop-place-preserved : goal.loop-place-preserved
loop-place-preserved c =
    let i = c.loop-place.invariant in
    let heads = c.args.self.now.table.value.heads.items in
    let place = c.loop-place.place in
    let inside : place < length heads = omega (arith, c.loop-place-test.true, c.requires.links) in
    elim c.if-is_admissible.branch [
      | then-is_admissible+else-may_lead w ↦
          let less = w.lesser-skipped.ensures in
          let head : w.index-head.result.now ≡ get_or heads place 0 =
          (rw w.deref.ensures at w.index-head.ensures) ∙ sym (get_or_default heads place 0 _ inside) in
          let astray = rw head at w.may_lead.ensures in
          rw w.skipped-is (record {
            from = omega (arith, less.one, i.from, c.loop-place.auto.place);
            to = omega (arith, less.first, i.to);
            first = λ p from before at room. i.first p from (omega (arith, before, less.first)) (omega (arith, before, less.place)) room;
            only = λ p from at room falls. elim (cases_eq p place) [
              | inl same ↦ inl (subst (λ q. IsAstray c.args.ball.now c.args.wanted.goal c.args.wanted.left (get_or heads q 0)) (sym same)
                  (astray w.if-may_lead.false))
              | inr apart ↦ i.only p from (omega (arith, at, apart)) room falls
            ];
          })
      | else-is_admissible w ↦
          rw w.skipped-is (record {
            from = i.from;
            to = i.to;
            first = λ p from before at room falls. elim (cases_eq p place) [
              | inl same ↦ c.is_admissible.ensures.none w.if-is_admissible.false (rw same at room) (rw same at falls)
              | inr apart ↦ i.first p from before (omega (arith, at, apart)) room falls
            ];
            only = λ p from at room falls. elim (cases_eq p place) [
              | inl same ↦ absurd (c.is_admissible.ensures.none w.if-is_admissible.false (rw same at room) (rw same at falls))
              | inr apart ↦ i.only p from (omega (arith, at, apart)) room falls
            ];
          })
    ]
