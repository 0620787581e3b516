use Rattle.std.proofs.Common.{◌≡◌, ◌<◌, ◌∙◌, length, get_or, arith}
use Rattle.std.proofs.lemmas.List.{get_or_default}
use Rattle.dmf_links.specs.LinkTable.{links_of}
use Rattle.dmf_links.proofs.building.Numbering.{before-all, before-copied, before-kept}
use Rattle.dmf_links.proofs.numbers.number_against.Goals as goal
use Rattle.dmf_links.proofs.numbers.number_against.Goals.{then-numbers-place, else-numbers-place}

pub loop-place-init : goal.loop-place-init
loop-place-init c = record { known = c.requires.along; done = λ p h. absurd (omega (arith, h)) }

pub loop-place-preserved : goal.loop-place-preserved
loop-place-preserved c =
    let table = c.args.table.now in
    let place = c.loop-place.place in
    let numbers = c.loop-place.numbers in
    let long = c.loop-place.invariant.known.one_each in
    let within : place < length table.heads.items = omega (arith, c.loop-place-test.true, c.loop-place.auto.numbers, long, c.requires.along.one_each) in
    elim c.if-numbers-place.branch [
      | then-numbers-place w ↦
          let partner : w.index.result.now ≡ get_or table.partners.items place 0 =
          w.index.ensures ∙ get_or_default table.partners.items place _ 0 (omega (arith, table.are.partners_long, within)) in
          rw (w.numbers-is, partner) (before-copied (links_of table) c.args.places.now place numbers table.are c.requires.places within
          w.if-numbers-place.true c.loop-place.invariant)
      | else-numbers-place w ↦
          rw w.numbers-is (before-kept (links_of table) c.args.places.now place numbers w.if-numbers-place.false c.loop-place.invariant)
    ]

pub returns : goal.returns
returns c = before-all (links_of c.args.table.now) c.args.places.now c.loop-place.place c.loop-place.numbers
    (omega (arith, c.loop-place-test.false, c.requires.along.one_each)) c.loop-place.invariant
