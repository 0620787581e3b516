-- The search keeps its labels between other ends, or begins anew between them.
use Rattle.std.proofs.Common.{ap, sym, ◌∙◌, subst}
use Rattle.std.proofs.lemmas.List.{with_items_is}
use Rattle.dmf_links.specs.Links.{ArePlaces}
use Rattle.dmf_links.specs.Numbers.{MayBeNumbered}
use Rattle.dmf_path.specs.Searching.{Sought, searched}
use Rattle.dmf_path.proofs.search.Search.aim.Goals as goal

pub aim-self-inside-requires : goal.aim-self-inside-requires
aim-self-inside-requires c = record {
  asides = rw c.deref_mut.ensures.value c.self.invariant.0.asides_are;
  ends = record {
    start_is = rw (← c.self.view_is) at c.requires.start;
    goal_is = rw (← c.self.view_is) at c.requires.goal;
    apart = c.requires.apart;
  };
}

pub invariant_of-self : goal.invariant_of-self
invariant_of-self c =
    let of = c.self.inside in
    let asides = with_items_is of.asides c.aim-self-inside.new.asides (c.aim-self-inside.auto.asides ∙ c.deref_mut.ensures.len) in
    let e = c.aim-self-inside.ensures in
    let links = sym (ap (λ (s : Sought). s.residual.links) e.same) in (
      record {
        places_are = subst (λ l. ArePlaces l of.places.value) links c.self.invariant.0.places_are;
        numbers_are = subst (λ l. MayBeNumbered l of.places.value of.numbers) links c.self.invariant.0.numbers_are;
        asides_are = rw asides e.asides;
      },
      e.marked,
    )

pub returns : goal.returns
returns c = rw (← c.self.view_is) (ap (λ (s : Sought). searched s c.self.inside.places.value) c.aim-self-inside.ensures.same)
