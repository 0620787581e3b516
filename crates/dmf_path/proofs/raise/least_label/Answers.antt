-- A turn: a link with room, or one without.
use Rattle.std.proofs.Common.{◌<◌, length, get_or, min, ap, sym, ◌∙◌, arith}
use Rattle.std.proofs.lemmas.List.{get_or_default}
use Rattle.dmf_path.proofs.labels.RaisedLabels.{least-kept, least-next}
use Rattle.dmf_path.proofs.raise.least_label.Goals as goal
use Rattle.dmf_path.proofs.raise.least_label.Goals.{then-index-gt0, else-index-gt0}

pub loop-place-preserved : goal.loop-place-preserved
loop-place-preserved c =
    let table = c.args.links.now.table.value in
    let place = c.loop-place.place in
    let ended = rw c.deref.ensures at c.places_at-places.ensures in
    let within : place < length table.heads.items = omega (arith, c.loop-place-test.true, ended.within) in
    let rooms : place < length c.args.links.now.rooms.items = omega (arith, within, c.args.links.now.rooms_are.0) in
    let room = get_or_default c.args.links.now.rooms.items place 0 c.index.result.now rooms ∙ sym c.index.ensures in
    elim c.if-index-gt0.branch [
      | then-index-gt0 w ↦
          let head = get_or_default table.heads.items place 0 w.index-then-index-gt0.result.now within
          ∙ sym (rw w.deref-then-index-gt0.ensures at w.index-then-index-gt0.ensures) in
          rw w.least-is (least-next c.loop-place.invariant (omega (arith, c.loop-place.auto.place, ended.start)) (omega (arith, room, w.if-index-gt0.true))
          (w.min-least.ensures ∙ ap (λ q. min c.loop-place.least (get_or c.args.labels.now q 0)) (sym head)))
      | else-index-gt0 w ↦ rw w.least-is (least-kept c.loop-place.invariant (λ some. omega (arith, room, some, w.if-index-gt0.false)))
    ]
