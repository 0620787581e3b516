use Rattle.dmf_links.specs.Links.{HaveFirstPlaces}
use Rattle.dmf_links.proofs.places.count_first.Given as goal

abbrev pub invariant-loop-k : goal.invariant-loop-k
invariant-loop-k l = HaveFirstPlaces l.k l.places
