-- The pairs of the search are as many as the places.
use Rattle.std.proofs.Common.{length, ap, sym, ◌∙◌, arith}
use Rattle.std.proofs.lemmas.List.{length-map}
use Rattle.dmf_links.specs.declared.table.LinkTable.{LinkTable}
use Rattle.dmf_links.specs.Links.{pair_at}
use Rattle.dmf_path.specs.Held.{way_of}
use Rattle.dmf_path.specs.Residual.{residual_of, with_settled_rooms}
use Rattle.dmf_path.specs.Phase.{Phased, sought_by}
use Rattle.dmf_path.specs.Search.{Searched}
use Rattle.dmf_path.specs.Searching.{searched}
use Rattle.dmf_path.proofs.pairs.SparePairs.{both-long}
use Rattle.dmf_path.proofs.search.spares.RoomyPairsPairs.len.Goals as goal

pub returns : goal.returns
returns c =
    let places = c.search.inside.places.value in
    let r = residual_of c.phase.inside.links in
    let roomy = c.args.self.now in
    let view = ap (λ (p : Phased). searched (sought_by p) places) c.phase.view_is ∙ c.search.view_is in
    let long = ap (λ (s : Searched). length s.pairs) (sym view)
    ∙ length-map places (pair_at r.links (with_settled_rooms r (way_of c.phase.inside.trail)).rooms) in
    omega (
      arith,
      both-long roomy.search.now.nodes roomy.hub roomy.more roomy.search.now.pairs,
      long,
      ap (λ (s : Searched). s.nodes) (sym view),
      c.len.ensures,
      ap length c.deref.ensures,
      ap (λ (t : LinkTable). t.nodes) c.deref-2.ensures,
    )
