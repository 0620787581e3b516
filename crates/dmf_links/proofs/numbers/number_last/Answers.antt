-- The links of the last pair get its number, if it has links.
use Rattle.std.proofs.Common.{◌≡◌, ◌≢◌, ◌-◌, ◌<◌, ◌∙◌, get_or, length, subst, arith}
use Rattle.dmf_links.specs.Links.{IsPlaceOf, no_place}
use Rattle.dmf_links.specs.LinkTable.{links_of}
use Rattle.dmf_links.specs.Numbers.{AreOthersNumbered}
use Rattle.dmf_links.proofs.building.Numbering.{numbered-last, numbered-but_none}
use Rattle.dmf_links.proofs.numbers.number_last.Goals.{in-Some+in_ok-get_mut, in_default}
use Rattle.dmf_links.proofs.numbers.number_last.Goals as goal

pub returns : goal.returns
returns c =
    let l = links_of c.args.table.now in
    let places = c.args.places.now in
    let has : 0 < length places = omega (arith, c.len-count.ensures, c.if-count-eq0.false) in
    let others = subst (λ x. AreOthersNumbered l places x) c.in_ok-known.was c.requires.others in
    elim c.match-place_of.branch [
      | in-Some+in_ok-get_mut w ↦
          let of : IsPlaceOf places (length places - 1) w.in-Some.place = rw c.len-count.ensures at w.in-Some.ensures in
          let there : get_or places (length places - 1) 0 ≢ no_place = λ none. of.there (of.is ∙ none) in
          let last = numbered-last l places c.in_ok-known.known.value.items c.args.table.now.are c.requires.places has others.0 others.1 there in
          rw (w.known-is, w.put_two.ensures, w.in_ok-get_mut.ensures.value, w.opposite-opposite.ensures.is, of.is, c.len-count.ensures) last
      | in_default w ↦
          let none : get_or places (length places - 1) 0 ≡ no_place = rw c.len-count.ensures at w.in_default.ensures in
          rw w.known-is (numbered-but_none l places c.in_ok-known.known.value.items others.0 others.1 none)
    ]
