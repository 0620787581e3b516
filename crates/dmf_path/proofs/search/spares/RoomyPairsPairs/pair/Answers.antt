-- Behind the pairs of the search come the others.
use Rattle.std.proofs.Common.{◌≡◌, ◌+◌, ◌-◌, ◌<◌, ◌≤◌, ◌++◌, length, Option, Some, None, ap, sym, ◌∙◌, arith}
use Rattle.std.proofs.lemmas.List.{length-map}
use Rattle.std.proofs.lemmas.Option.{slice_get-get_or}
use Rattle.dmf_links.specs.declared.pair.Pair.{Pair}
use Rattle.dmf_links.specs.declared.table.LinkTable.{LinkTable}
use Rattle.dmf_links.specs.Links.{pair_at}
use Rattle.dmf_path.specs.Phase.{Phased, sought_by}
use Rattle.dmf_path.specs.Search.{Searched}
use Rattle.dmf_path.specs.Spares.{spare_pair, spare_pairs}
use Rattle.dmf_path.proofs.pairs.SparePairs.{both-long, number-behind}
use Rattle.dmf_path.proofs.search.spares.RoomyPairsPairs.pair.Goals as goal
use Rattle.dmf_path.proofs.search.spares.RoomyPairsPairs.pair.Goals.{After-deref-2}

count : (c : After-deref-2) → c.len-count.result ≡ length c.args.self.now.search.now.pairs
count c =
    let s = sought_by c.search.inside.phase in
    let long = ap (λ (x : Searched). length x.pairs) (sym c.search.view_is)
    ∙ length-map c.search.inside.places.value (pair_at s.residual.links s.residual.rooms) in
    omega (arith, long, c.len-count.ensures, ap length c.deref.ensures)

nodes : (c : After-deref-2) → c.deref-2.result.now.nodes ≡ c.args.self.now.search.now.nodes
nodes c = ap (λ (t : LinkTable). t.nodes) c.deref-2.ensures ∙ ap (λ (p : Phased). p.links.table.value.nodes) c.phase.view_is
    ∙ ap (λ (s : Searched). s.nodes) c.search.view_is

below : (c : After-deref-2) → c.args.k < length c.args.self.now.search.now.pairs + (c.args.self.now.search.now.nodes + c.args.self.now.more)
below c =
    let roomy = c.args.self.now in
    omega (arith, c.requires, both-long roomy.search.now.nodes roomy.hub roomy.more roomy.search.now.pairs)

pub overflow_cast-k : goal.overflow_cast-k
overflow_cast-k c =
    let at = (goal.at.overflow_cast-k c).After-deref-2 in
    omega (arith, below at, count at, c.args.self.now.few)

pub spare_pair-requires-clause-k : goal.spare_pair-requires-clause-k
spare_pair-requires-clause-k c =
    let at = (goal.at.spare_pair-requires-clause-k c).After-deref-2 in
    omega (arith, below at, count at, nodes at, c.if-k-count.false, c.args.self.now.more_is)

pub returns : goal.returns
returns c =
    let at = (goal.at.returns c).After-deref-2 in
    let roomy = c.args.self.now in
    let of = roomy.search.now in
    let past : length of.pairs ≤ c.args.k = omega (arith, count at, c.if-k-count.false) in
    let is = number-behind of.nodes roomy.hub roomy.more of.pairs c.args.k past (below at) in
    let made : c.spare_pair.result ≡ spare_pair of.nodes roomy.hub (c.args.k - length of.pairs) = rw (nodes at, count at) at c.spare_pair.ensures in
    slice_get-get_or (of.pairs ++ spare_pairs of.nodes roomy.hub roomy.more) c.args.k None c.requires
    ∙ ap (λ (o : Option Pair). Some o) (is ∙ ap (λ (p : Pair). Some p) (sym made))
