-- All links have left, or the link is in no slot, and its room is settled.
use Rattle.std.proofs.Common.{List, get_or, ap, sym, refl, subst}
use Rattle.std.proofs.lemmas.Bool.{eqb-false}
use Rattle.dmf_path.specs.declared.trail.Slot.{Slot}
use Rattle.dmf_path.specs.Held.{way_of, places_of, filled_slots, IsOff}
use Rattle.dmf_path.specs.Residual.{ResidualLinks, residual_of}
use Rattle.dmf_path.proofs.slots.Released.{off-slots, room-alone}
use Rattle.dmf_path.proofs.phase.Phase.release.Goals as goal

pub returns-then-links : goal.returns-then-links
returns-then-links c =
    let e = c.settle.ensures in
    record {
      alike = e.alike;
      off = subst (λ (ss : List Slot). IsOff c.args.place (places_of ss)) (sym e.free) tt;
      room = ap (λ (x : ResidualLinks). get_or x.rooms c.args.place 0) e.settled;
    }

pub returns-else-falls : goal.returns-else-falls
returns-else-falls c =
    let of = c.self.inside in
    let is = c.self.invariant.searching in
    let r = residual_of of.links in
    let w = way_of of.trail in
    let rises = rw (c.deref.ensures, c.labels.ensures) at c.if-falls.ensures in
    let off : IsOff c.args.place (places_of (filled_slots w)) =
    off-slots c.args.place is.aimed.links is.aimed.start_is is.under_way (eqb-false _ _ (sym rises)) in
    rw (← c.self.view_is) (record {
      alike = record { same = refl; levels = refl; ball = refl };
      off = off;
      room = room-alone r.links w r.rooms c.args.place (rw (← c.self.view_is) at c.requires) is.holding.rooms_are.0 c.if-links.false off;
    })
