-- Each link of the goal is looked at.
use Rattle.std.proofs.Common.{◌≡◌, ◌<◌, true, get_or, inl, inr, length, subst, sym, ◌∙◌, arith}
use Rattle.std.proofs.lemmas.List.{get_or_default}
use Rattle.dmf_links.specs.Links.{LiesAt}
use Rattle.dmf_links.specs.LinkTable.{links_of}
use Rattle.dmf_path.specs.Windows.{IsWithin}
use Rattle.dmf_path.proofs.walks.NearGoal.{first-kept, first-set, first-last}
use Rattle.dmf_path.proofs.residual.Residual.first_from.Goals as goal
use Rattle.dmf_path.proofs.residual.Residual.first_from.Goals.{then-index-eq1+then-index-node, else-index-eq1}
use Rattle.dmf_path.proofs.residual.Residual.first_from.Goals.{else-index-eq1-via-then-index-eq1+else-index-node, else-index-eq1-via-else-index-eq1}

pub loop-place-preserved : goal.loop-place-preserved
loop-place-preserved c =
    let table = c.args.self.now.table.value in
    let l = links_of table in
    let flags = c.args.self.now.flags.items in
    let place = c.loop-place.place in
    let inside : place < length l.heads = omega (arith, rw c.deref.ensures at c.places_at-places.ensures.within, c.loop-place-test.true) in
    let flag : c.index.result.now ≡ get_or flags place 0 =
    c.index.ensures ∙ sym (get_or_default flags place 0 _ (omega (arith, inside, c.args.self.now.flags_are.0))) in
    elim c.if-index-eq1.branch [
      | then-index-eq1+then-index-node w ↦
          let partner : w.index-then-index-node.result.now ≡ get_or l.partners place 0 =
          (rw w.deref-then-index-node.ensures at w.index-then-index-node.ensures)
          ∙ sym (get_or_default l.partners place 0 _ (omega (arith, inside, table.are.partners_long))) in
          let e = rw partner at w.nearer-first.ensures in
          let lies : LiesAt l c.args.head place = record {
            from = omega (arith, rw c.deref.ensures at c.places_at-places.ensures.start, c.loop-place.auto.place);
            below = omega (arith, rw c.deref.ensures at c.places_at-places.ensures.end, c.loop-place-test.true);
          } in
          rw w.first-is (first-set c.loop-place.invariant table.are c.args.self.now.flags_are c.requires.head lies (sym flag ∙ w.if-index-eq1.true)
          e.low e.lower e.one)
      | else-index-eq1 w ↦ rw w.first-is (first-kept c.loop-place.invariant (elim w.else-index-eq1.branch [
        | else-index-eq1-via-then-index-eq1+else-index-node x ↦
            let head : x.index-then-index-eq1.result.now ≡ get_or l.heads place 0 =
            (rw x.deref-then-index-eq1.ensures at x.index-then-index-eq1.ensures) ∙ sym (get_or_default l.heads place 0 _ inside) in
            λ open_link same. x.if-index-node.false (head ∙ same)
        | else-index-eq1-via-else-index-eq1 x ↦ λ open_link. absurd (x.if-index-eq1.false (flag ∙ open_link))
      ]))
    ]

pub returns-clause-first : goal.returns-clause-first
returns-clause-first c =
    let l = links_of c.args.self.now.table.value in
    let windows = c.args.ball.now.windows in
    let left_out = rw c.deref.ensures at c.places_at-places.ensures.left_out in
    λ p later before room. elim (first-last c.loop-place.invariant {LeftOut = λ q. (windows.known ≡ true) × (¬ IsWithin windows c.args.head q)}
    c.args.self.now.table.value.are c.args.self.now.flags_are c.requires.links.node_is c.places_at-places.result.end
    (omega (arith, c.loop-place-test.false)) left_out c.requires.links.from_first c.requires.links.to_last p later before room) [
      | inl other ↦ inl other
      | inr out ↦ inr (out.1.0, subst (λ w. ¬ IsWithin windows w (get_or l.partners p 0)) (sym out.0) out.1.1)
    ]
