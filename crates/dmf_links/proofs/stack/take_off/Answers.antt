-- The last pair is taken off: its links are spare then.
use Rattle.std.proofs.Common.{◌≡◌, ◌≢◌, ◌-◌, get_or, length, ◌∙◌}
use Rattle.dmf_links.specs.Links.{IsPlaceOf, no_place}
use Rattle.dmf_links.specs.LinkTable.{links_of}
use Rattle.dmf_links.proofs.spares.TakenOff.{AreLinks-left, is-off, none-off}
use Rattle.dmf_links.proofs.stack.take_off.Goals.{in-Some+else-not-set_ends, in_default}
use Rattle.dmf_links.proofs.stack.take_off.Goals as goal

pub set_ends-requires-clause-links : goal.set_ends-requires-clause-links
set_ends-requires-clause-links c =
    let l = links_of c.args.table.now in
    let places = c.args.places.now in
    let of : IsPlaceOf places (length places - 1) c.in-Some.place = rw c.len.ensures at c.in-Some.ensures in
    let there : get_or places (length places - 1) 0 ≢ no_place = λ none. of.there (of.is ∙ none) in
    rw (c.opposite-opposite.ensures.is, of.is) (AreLinks-left c.args.table.now.are c.requires.places c.requires.some there)

pub returns : goal.returns
returns c done =
    let l = links_of c.args.table.now in
    let places = c.args.places.now in
    elim c.match-place_of.branch [
      | in-Some+else-not-set_ends w ↦
          let of : IsPlaceOf places (length places - 1) w.in-Some.place = rw c.len.ensures at w.in-Some.ensures in
          let there : get_or places (length places - 1) 0 ≢ no_place = λ none. of.there (of.is ∙ none) in
          rw (w.table-is, w.set_ends.ensures w.if-not-set_ends.false, w.opposite-opposite.ensures.is, of.is, c.take_off.ensures)
          (is-off c.args.table.now.are c.requires.places c.requires.some there)
      | in_default w ↦
          let none : get_or places (length places - 1) 0 ≡ no_place = rw c.len.ensures at w.in_default.ensures in
          rw (w.table-is, c.take_off.ensures) (none-off c.args.table.now.are c.requires.places c.requires.some none)
    ]
