use Rattle.std.proofs.Common.{ℕ, List, sym, subst}
use Rattle.dmf_links.specs.Links.{Links}
use Rattle.dmf_links.specs.LinkTable.{links_of}
use Rattle.dmf_links.specs.Numbers.{AreNumbers}
use Rattle.dmf_path.specs.Phase.{Phased}
use Rattle.dmf_path.proofs.search.Search.share_numbers.Goals as goal

pub invariant_of-self : goal.invariant_of-self
invariant_of-self c =
    let of = c.self.inside in
    let other = c.other.inside in
    let i = c.self.invariant in
    let numbers = c.in-Some.numbers.value.items in
    let known : AreNumbers (links_of c.others.inside.links.table.value) other.places.value numbers =
    rw (c.in-Some.is, ← c.others.view_is) at c.other.invariant.0.numbers_are in
    let links = rw (c.deref.ensures, c.deref-2.ensures) at (c.is.ensures.0 c.if-is.true) in
    let places = rw (c.deref-then-is.ensures, c.deref-then-is-2.ensures) at (c.are.ensures.0 c.if-are.true) in
    let shared : AreNumbers (links_of c.phase.inside.links.table.value) of.places.value numbers =
    subst (λ (l : Links). AreNumbers l of.places.value numbers) (sym links)
    (subst (λ (ps : List ℕ). AreNumbers (links_of c.others.inside.links.table.value) ps numbers) (sym places) known) in
    let own = subst (λ (p : Phased). AreNumbers (links_of p.links.table.value) of.places.value numbers) c.phase.view_is shared in
    (record { places_are = i.0.places_are; numbers_are = rw c.in_ok-clone.ensures.cases own; asides_are = i.0.asides_are }, i.1)
