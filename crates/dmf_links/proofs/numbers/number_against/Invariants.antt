use Rattle.dmf_links.specs.LinkTable.{links_of}
use Rattle.dmf_links.proofs.building.Numbering.{AreNumberedBefore}
use Rattle.dmf_links.proofs.numbers.number_against.Given as goal

abbrev pub invariant-loop-place : goal.invariant-loop-place
invariant-loop-place l = AreNumberedBefore (links_of l.table) l.places l.place l.numbers
