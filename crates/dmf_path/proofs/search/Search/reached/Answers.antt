use Rattle.std.proofs.Common.{map, drop, ◌∙◌, ap, refl}
use Rattle.std.proofs.lemmas.Result.{IfOk-weaker}
use Rattle.dmf_path.specs.Labels.{is_label}
use Rattle.dmf_path.specs.Held.{way_of, filled_slots}
use Rattle.dmf_path.specs.Residual.{residual_of}
use Rattle.dmf_path.proofs.labels.Marks.{marks-reached}
use Rattle.dmf_path.proofs.slots.Settled.{AreRooms-settled}
use Rattle.dmf_path.proofs.search.Search.reached.Goals as goal

pub returns-clause-marks : goal.returns-clause-marks
returns-clause-marks c =
    let of = c.phase.inside in
    let r = residual_of of.links in
    let w = way_of of.trail in
    let a = c.phase.invariant.searching.aimed in
    let places_are = rw (← c.phase.view_is) at c.self.invariant.0.places_are in
    let rooms = AreRooms-settled r.links r.takes_back w.sent (filled_slots w) r.rooms a.links of.links.rooms_are in
    rw (← c.self.view_is, ← c.phase.view_is)
    (IfOk-weaker c.labelled.result _ _
    (λ found told. marks-reached _ _ _ _ c.in_ok-labels.labels.items _ found.items a.links places_are rooms refl c.in_ok-labels.ensures a.start_is
    (told ∙ ap (λ xs. map is_label (drop 1 xs)) c.deref.ensures.value))
    c.labelled.ensures)
