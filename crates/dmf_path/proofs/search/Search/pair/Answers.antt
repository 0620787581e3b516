-- The two links of the pair lead between two nodes, and their rooms fit.
use Rattle.std.proofs.Common.{◌<◌, length, inl, ap, sym, ◌∙◌, arith}
use Rattle.std.proofs.lemmas.List.{get_or_read}
use Rattle.dmf_links.specs.Links.{IsPlaceOf}
use Rattle.dmf_links.proofs.rooms.PairRead.{place-within}
use Rattle.dmf_path.specs.Held.{way_of, filled_slots}
use Rattle.dmf_path.specs.Residual.{residual_of}
use Rattle.dmf_path.proofs.slots.Settled.{AreRooms-settled}
use Rattle.dmf_path.proofs.search.Search.pair.Goals as goal

pub returns-clause-valid : goal.returns-clause-valid
returns-clause-valid c =
    let places = c.self.inside.places.value in
    let of = c.phase.inside in
    let r = residual_of of.links in
    let w = way_of of.trail in
    let a = c.phase.invariant.searching.aimed in
    let places_are = rw (← c.phase.view_is) at c.self.invariant.0.places_are in
    let index : c.args.k < length places = omega (arith, c.if-k-len.false, c.len.ensures, ap length c.deref.ensures) in
    let at : IsPlaceOf places c.args.k c.in_ok-place.place = rw c.deref-2.ensures at c.in_ok-place.ensures in
    let within = place-within r.links places c.args.k c.in_ok-place.place places_are index at in
    let used = places_are.used c.in_ok-place.place c.args.k within (index, (λ none. at.there (at.is ∙ none)), inl (sym at.is)) in
    let link = a.links.each c.in_ok-place.place within in
    let rooms = AreRooms-settled r.links r.takes_back w.sent (filled_slots w) r.rooms a.links of.links.rooms_are in
    let head = get_or_read r.links.heads _ _ within (rw c.deref-4.ensures at c.index.ensures) 0 in
    record {
      tail = rw (← c.self.view_is, ← c.phase.view_is, c.tail.ensures, c.deref-3.ensures) link.tail;
      head = rw (← c.self.view_is, ← c.phase.view_is, head) link.head;
      no_loop = rw (c.tail.ensures, c.deref-3.ensures, head) (link.no_loop used);
      fits = rw (c.settled_room.ensures, c.opposite_room.ensures) (rooms.1 c.in_ok-place.place within);
    }
