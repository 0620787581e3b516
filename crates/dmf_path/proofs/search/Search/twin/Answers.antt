-- The pairs have the ends of the links at the places of the search, and the other search has their rooms there.
use Rattle.std.proofs.Common.{◌∙◌}
use Rattle.dmf_path.specs.Held.{way_of}
use Rattle.dmf_path.specs.Residual.{residual_of}
use Rattle.dmf_path.specs.Searching.{sought}
use Rattle.dmf_links.proofs.tables.Twins.{emptied-pairs}
use Rattle.dmf_path.proofs.search.Search.twin.Goals as goal

pub rooms_of-requires-clause-same_ends : goal.rooms_of-requires-clause-same_ends
rooms_of-requires-clause-same_ends g c =
    let s = sought (residual_of c.phase.inside.links) (way_of c.phase.inside.trail) in
    rw (c.deref.ensures, c.deref-2.ensures)
    ((rw (← c.self.view_is, ← c.phase.view_is) at c.requires.same_ends)
    ∙ emptied-pairs s.residual.links c.self.inside.places.value s.residual.rooms)

pub search-requires-clause-rooms : goal.search-requires-clause-rooms
search-requires-clause-rooms g c = rw c.in_ok-clone.ensures.cases (rw c.deref.ensures at c.in_ok-rooms.ensures.rooms)
