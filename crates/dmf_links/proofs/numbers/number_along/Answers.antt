use Rattle.std.proofs.Common.{ℕ, ◌≡◌, ◌≢◌, ◌<◌, ◌∙◌, length, get_or, subst, arith}
use Rattle.dmf_links.specs.LinkTable.{links_of}
use Rattle.dmf_links.specs.Links.{IsPlaceOf, no_place}
use Rattle.dmf_links.specs.Numbers.{AreNumberedAlong}
use Rattle.dmf_links.proofs.building.Numbering.{along-none, along-pair, along-unplaced}
use Rattle.dmf_links.proofs.numbers.number_along.Goals as goal
use Rattle.dmf_links.proofs.numbers.number_along.Goals.{in-Some, in_default}

pub loop-k-init : goal.loop-k-init
loop-k-init c = along-none (links_of c.args.table.now) c.args.places.now c.args.numbers.now c.requires.none

pub loop-k-preserved : goal.loop-k-preserved
loop-k-preserved c =
    let l = links_of c.args.table.now in
    let places = c.args.places.now in
    let k : ℕ = c.loop-k.k in
    let index : k < length places = omega (arith, c.loop-k-test.true, c.len-k-end.ensures) in
    elim c.match-place_of.branch [
      | in-Some w ↦
          let its : IsPlaceOf places k w.in-Some.place = w.in-Some.ensures in
          let there : get_or places k 0 ≢ no_place = λ none. its.there (its.is ∙ none) in
          rw (w.numbers-is, its.is) (along-pair l places k c.loop-k.numbers c.requires.places index there c.loop-k.invariant)
      | in_default w ↦
          rw w.numbers-is (along-unplaced l places k c.loop-k.numbers w.in_default.ensures c.loop-k.invariant)
    ]

pub returns : goal.returns
returns c =
    let all : c.loop-k.k ≡ length c.args.places.now = omega (arith, c.loop-k-test.false, c.len-k-end.ensures, c.loop-k.auto.k-end) in
    subst (λ k. AreNumberedAlong (links_of c.args.table.now) c.args.places.now k c.loop-k.numbers) all c.loop-k.invariant
