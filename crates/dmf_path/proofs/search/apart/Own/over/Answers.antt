-- A search that has begun anew goes on over any links between as many nodes.
use Rattle.std.proofs.Common.{ap, sym, ◌∙◌}
use Rattle.dmf_path.specs.Held.{way_of}
use Rattle.dmf_links.specs.LinkTable.{links_of}
use Rattle.dmf_path.specs.Phase.{fresh}
use Rattle.dmf_path.specs.Residual.{ResidualLinks}
use Rattle.dmf_path.specs.Searching.{labelling_of, searched, IsFresh, IsSearching}
use Rattle.dmf_path.proofs.labels.Asides.{aside-none}
use Rattle.dmf_path.proofs.searches.SearchTurns.{plainly, searching-over, told-fresh}
use Rattle.dmf_path.proofs.search.apart.Own.over.Goals as goal
use Rattle.dmf_path.proofs.search.apart.Own.over.Goals.{Start}

pub invariant_of-links : goal.invariant_of-links
invariant_of-links c = record { rooms_are = c.requires.apart.1.rooms; flags_are = c.requires.apart.1.flags }

-- these links with its rooms
abbrev next : Start → ResidualLinks
next c = record { links = links_of c.args.shared.table.value; takes_back = c.args.self.takes_back; rooms = c.args.self.rooms.items }

-- It goes on there.
found : (c : Start) → IsSearching (next c) (labelling_of c.args.self.levels) (way_of c.args.self.trail)
    × IsFresh (links_of c.args.shared.table.value) c.args.self.levels.near.labels c.args.self.trail.start
found c =
    let b = c.requires.apart.1.begun in
    searching-over (next c) b.searching b.fresh (sym b.nodes_are) c.args.shared.table.value.are c.requires.apart.1.rooms c.requires.apart.1.current_is

pub invariant_of-phase : goal.invariant_of-phase
invariant_of-phase c =
    let b = c.requires.apart.1.begun in
    record {
      searching = (found (goal.at.invariant_of-phase c).Start).0;
      ready = b.ready;
      lasting = λ all. let no = b.none_last in absurd (cc);
      fit = c.forget.ensures.fit _;
    }

pub invariant_of-result : goal.invariant_of-result
invariant_of-result c = (
  record {
    places_are = c.requires.shared.places;
    numbers_are = c.requires.shared.numbers;
    asides_are = aside-none _ _ c.clear.ensures.items;
  },
  fresh (record { fresh = (found (goal.at.invariant_of-result c).Start).1; none_last = c.requires.apart.1.begun.none_last }),
)

pub returns : goal.returns
returns c s apart =
    let b = c.requires.apart.1.begun in
    ap (λ (x : ResidualLinks). searched (plainly x (way_of c.args.self.trail)) c.args.shared.places.value)
    (told-fresh (next (goal.at.returns c).Start) b.searching b.fresh) ∙ apart.same
