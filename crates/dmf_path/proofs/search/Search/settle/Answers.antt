-- All links leave, and the settled rooms stay.
use Rattle.std.proofs.Common.{ap, sym, subst}
use Rattle.dmf_path.specs.Phase.{IsSearch}
use Rattle.dmf_path.specs.Searching.{Sought, searched}
use Rattle.dmf_path.proofs.searches.Phases.{marked-alike}
use Rattle.dmf_path.proofs.search.Search.settle.Goals as goal

pub invariant_of-self : goal.invariant_of-self
invariant_of-self c =
    let of = c.self.inside in
    let e = c.settle.ensures.alike in (
      subst (λ (s : Sought). IsSearch s of.places.value of.numbers of.asides.items) (sym e.same) c.self.invariant.0,
      marked-alike (ap (λ (s : Sought). s.residual.links) e.same) (ap (λ (s : Sought). s.start) e.same) e.levels c.self.invariant.1,
    )

pub returns : goal.returns
returns c = rw (← c.self.view_is) (ap (λ (s : Sought). searched s c.self.inside.places.value) c.settle.ensures.alike.same)
