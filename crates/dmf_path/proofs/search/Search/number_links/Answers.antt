use Rattle.std.proofs.Common.{subst}
use Rattle.dmf_links.specs.LinkTable.{links_of}
use Rattle.dmf_links.specs.Numbers.{AreNumbers}
use Rattle.dmf_path.specs.Phase.{Phased}
use Rattle.dmf_path.proofs.search.Search.number_links.Goals as goal

pub invariant_of-self-in_ok-new-2 : goal.invariant_of-self-in_ok-new-2
invariant_of-self-in_ok-new-2 c =
    let of = c.self.inside in
    let i = c.self.invariant in
    let numbers : AreNumbers (links_of of.phase.links.table.value) of.places.value c.in_ok-new.field-0.value.items =
    subst (λ (p : Phased). AreNumbers (links_of p.links.table.value) of.places.value c.in_ok-new.field-0.value.items) c.phase.view_is
    (rw c.in_ok-new.ensures.ok (rw (c.deref.ensures, c.deref-then-is_none.ensures) at c.in_ok-numbers.ensures)) in
    (record { places_are = i.0.places_are; numbers_are = numbers; asides_are = i.0.asides_are }, i.1)
