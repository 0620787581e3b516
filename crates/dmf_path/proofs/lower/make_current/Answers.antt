-- A turn: a link that leads to the node from one with this label, or any other.
use Rattle.std.proofs.Common.{◌<◌, length, get_or, min, ap, sym, ◌∙◌, arith}
use Rattle.std.proofs.lemmas.List.{get_or_default}
use Rattle.dmf_path.proofs.labels.LoweredLabels.{again-kept, again-set}
use Rattle.dmf_path.proofs.lower.make_current.Goals as goal
use Rattle.dmf_path.proofs.lower.make_current.Goals.{then-index-eq1+then-labels-before, else-index-eq1, else-index-eq1-via-then-index-eq1+else-labels-before, else-index-eq1-via-else-index-eq1}

pub loop-place-preserved : goal.loop-place-preserved
loop-place-preserved c =
    let table = c.args.links.now.table.value in
    let place = c.loop-place.place in
    let ended = rw c.deref.ensures at c.places_at-places.ensures in
    let within : place < length table.heads.items = omega (arith, c.loop-place-test.true, ended.within, c.loop-place.auto.place-end) in
    let flags : place < length c.args.links.now.flags.items = omega (arith, within, c.args.links.now.flags_are.0) in
    let flag = get_or_default c.args.links.now.flags.items place 0 c.index.result.now flags ∙ sym c.index.ensures in
    let head = get_or_default table.heads.items place 0 c.index-before.result.now within
    ∙ sym (rw c.deref-in-loop-place.ensures at c.index-before.ensures) in
    elim c.if-index-eq1.branch [
      | then-index-eq1+then-labels-before w ↦
          let partners : place < length table.partners.items = omega (arith, within, table.are.partners_long) in
          let partner = get_or_default table.partners.items place 0 w.index-then-labels-before.result.now partners
          ∙ sym (rw w.deref-then-labels-before.ensures at w.index-then-labels-before.ensures) in
          rw w.current-is (again-set c.loop-place.invariant table.are within head
          (w.min.ensures ∙ ap (λ q. min (get_or c.loop-place.current c.index-before.result.now 0) q) (sym partner)))
      | else-index-eq1 w ↦ rw w.current-is (again-kept c.loop-place.invariant (λ opened is. elim w.else-index-eq1.branch [
        | else-index-eq1-via-then-index-eq1+else-labels-before w' ↦
            w'.if-labels-before.false (ap (λ u. get_or c.args.labels.now u 0) (sym head) ∙ is)
        | else-index-eq1-via-else-index-eq1 w' ↦ w'.if-index-eq1.false (sym flag ∙ opened)
      ]))
    ]
