-- A search that has begun anew holds nothing.
use Rattle.std.proofs.Common.{refl, ap, sym, ◌∙◌, subst}
use Rattle.dmf_path.specs.Held.{way_of}
use Rattle.dmf_links.specs.Links.{ArePlaces}
use Rattle.dmf_path.specs.Residual.{ResidualLinks, residual_of}
use Rattle.dmf_path.specs.Searching.{Sought, searched}
use Rattle.dmf_path.proofs.searches.SearchTurns.{plainly, told-fresh}
use Rattle.dmf_path.proofs.search.Search.begun.Goals as goal

pub returns-clause-apart : goal.returns-clause-apart
returns-clause-apart c =
    let places = c.self.inside.places.value in
    let of = c.phase.inside in
    let is = c.phase.invariant in
    let e = rw (← c.phase.view_is) at c.begin_anew.ensures in
    let r = residual_of of.links in
    record {
      links = of.links.table.value.are;
      places_are = subst (λ l. ArePlaces l places) (sym (ap (λ (s : Sought). s.residual.links) e.same)) c.self.invariant.0.places_are;
      rooms = of.links.rooms_are;
      flags = of.links.flags_are;
      begun = record {
        residual = r;
        searching = is.searching;
        fresh = e.fresh.fresh;
        nodes_are = refl;
        ready = is.ready;
        none_last = e.fresh.none_last;
      };
      current_is = is.searching.under_way.walking.current_is;
      tidy = is.fit.tidy;
      same = rw (← c.self.view_is) (ap (λ (x : ResidualLinks). searched (plainly x (way_of of.trail)) places) (sym (told-fresh r is.searching e.fresh.fresh))
          ∙ ap (λ (s : Sought). searched s places) e.same);
    }
