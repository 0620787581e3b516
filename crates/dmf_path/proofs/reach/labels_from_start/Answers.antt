use Rattle.std.proofs.Common.{length, ap, ◌∙◌}
use Rattle.dmf_path.specs.Held.{way_of, filled_slots}
use Rattle.dmf_path.specs.Residual.{residual_of}
use Rattle.dmf_path.proofs.slots.Settled.{length-settled}
use Rattle.dmf_path.proofs.slots.SettledRoom.{rooms_with-empty}
use Rattle.dmf_path.proofs.reach.labels_from_start.Goals as goal

pub returns-then-is_empty : goal.returns-then-is_empty
returns-then-is_empty c =
    let r = residual_of c.args.links.now in
    rw (rooms_with-empty r.links r.takes_back (way_of c.args.trail.now) r.rooms (c.is_empty.ensures c.if-is_empty.true))
    (rw (c.deref.ensures, c.deref-then-is_empty.ensures.value) at c.labels_over.ensures)

pub labels_over-requires-2-clause-one_room_each : goal.labels_over-requires-2-clause-one_room_each
labels_over-requires-2-clause-one_room_each c =
    let r = residual_of c.args.links.now in
    let w = way_of c.args.trail.now in
    rw c.deref-2.ensures (ap length (c.deref-3.ensures.value ∙ c.in_ok-settled.ensures) ∙ length-settled r.links r.takes_back w.sent
    (filled_slots w) r.rooms ∙ c.args.links.now.rooms_are.0)
