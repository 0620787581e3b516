-- The links and the places are the same.
use Rattle.std.proofs.Common.{ℕ, ◌≡◌, List, refl, ap, sym, ◌∙◌, subst}
use Rattle.dmf_links.specs.Links.{Links}
use Rattle.dmf_links.specs.LinkTable.{links_of}
use Rattle.dmf_path.specs.Apart.{IsApart}
use Rattle.dmf_path.proofs.search.apart.begun_over.Goals as goal

pub returns-then-are : goal.returns-then-are
returns-then-are c =
    let search = c.in_ok-search.field-0 in
    let own = c.begun-others.result.1 in
    let others = c.begun-others.result.0 in
    let shared = c.args.shared.now in
    let links : links_of others.table.value ≡ links_of shared.table.value =
    ap links_of (sym c.deref.ensures) ∙ c.if-is.ensures.0 refl ∙ ap links_of c.deref-2.ensures in
    let places : others.places.value ≡ shared.places.value = sym c.deref-then-is.ensures ∙ c.if-are.ensures.0 refl ∙ c.deref-then-is-2.ensures in (
      search,
      (
        c.in_ok-search.was,
        subst (λ (l : Links). IsApart l shared.places.value own search) links
            (subst (λ (ps : List ℕ). IsApart (links_of others.table.value) ps own search) places c.begun-others.ensures.apart),
      ),
    )
