-- Each noted link is looked at.
use Rattle.std.proofs.Common.{◌<◌, get_or, length, ap, arith}
use Rattle.std.proofs.lemmas.List.Elements.{All-get_or}
use Rattle.dmf_links.specs.LinkTable.{links_of}
use Rattle.dmf_path.proofs.labels.Redirected.{back-kept, back-set}
use Rattle.dmf_path.proofs.redirect.bring_back.Goals as goal
use Rattle.dmf_path.proofs.redirect.bring_back.Goals.{then-current-tail, else-current-tail}

pub loop-place-preserved : goal.loop-place-preserved
loop-place-preserved c =
    let l = links_of c.args.table.now in
    let k = c.loop-place.place-index in
    let within : get_or c.args.places.now k 0 < length l.heads =
    All-get_or (λ p. p < length l.heads) c.args.places.now k 0 c.loop-place-test.true c.requires.places in
    elim c.if-current-tail.branch [
      | then-current-tail w ↦ rw (w.current-is, c.tail-tail.ensures) (back-set c.loop-place.invariant c.args.table.now.are within
          (omega (arith, w.if-current-tail.true, ap (λ u. get_or c.loop-place.current u 0) c.tail-tail.ensures)))
      | else-current-tail w ↦ rw w.current-is (back-kept c.loop-place.invariant
          (omega (arith, w.if-current-tail.false, ap (λ u. get_or c.loop-place.current u 0) c.tail-tail.ensures)))
    ]
