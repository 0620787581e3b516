use Rattle.dmf_links.specs.LinkTable.{links_of}
use Rattle.dmf_links.specs.Numbers.{AreNumberedAlong}
use Rattle.dmf_links.proofs.numbers.number_along.Given as goal

abbrev pub invariant-loop-k : goal.invariant-loop-k
invariant-loop-k l = AreNumberedAlong (links_of l.table) l.places l.k l.numbers
