-- All indices cover the pairs at a node, and so do the numbers of its links.
use Rattle.std.proofs.Common.{◌≡◌, ◌-◌, ◌≤◌, length, ap, sym, subst, ◌∙◌}
use Rattle.std.specs.List.{range_with_len}
use Rattle.std.proofs.lemmas.List.{length-map}
use Rattle.dmf_links.specs.Links.{AreUsed, pair_at}
use Rattle.dmf_links.specs.LinkTable.{links_of}
use Rattle.dmf_links.specs.Numbers.{AreNumbers}
use Rattle.dmf_path.specs.Phase.{sought_by, IsSearch, Phased}
use Rattle.dmf_path.specs.Search.{Covers, IsElsewhere, Searched}
use Rattle.dmf_path.proofs.pairs.Covering.{covers-below}
use Rattle.dmf_path.proofs.pairs.IndicesAtNode.{covers-at_node}
use Rattle.dmf_path.proofs.search.Search.indices_at.Goals as goal

pub returns-in-Some : goal.returns-in-Some
returns-in-Some c =
    let of = c.self.inside in
    let s = sought_by of.phase in
    let table = of.phase.links.table.value in
    let is : IsSearch s of.places.value of.numbers of.asides.items = c.self.invariant.0 in
    let used : AreUsed (links_of table) c.args.node c.used_at.result.start c.used_at.result.end =
    subst (λ (p : Phased). AreUsed (links_of p.links.table.value) c.args.node c.used_at.result.start c.used_at.result.end) c.phase.view_is
    (rw c.deref-in-Some-3.ensures at c.used_at.ensures.used) in
    let within : c.used_at.result.end ≤ length table.heads.items =
    subst (λ (p : Phased). c.used_at.result.end ≤ length p.links.table.value.heads.items) c.phase.view_is
    (rw c.deref-in-Some-3.ensures at c.used_at.ensures.within) in
    let numbers : AreNumbers (links_of table) of.places.value c.deref-in-Some-2.result.now =
    rw (← c.deref-in-Some.ensures, ← c.deref-in-Some-2.ensures.value) at (rw c.in-Some.is at is.numbers_are) in
    rw (← c.self.view_is)
    (covers-at_node (links_of table) of.places.value s.residual.rooms c.deref-in-Some-2.result.now c.args.node c.used_at.result.start c.used_at.result.end
    table.are is.places_are numbers (rw c.deref.ensures at (c.are_all.ensures c.if-are_all.true)) (rw (← c.self.view_is) at c.requires) used c.used_at.ensures.order within)

pub returns-in_default : goal.returns-in_default
returns-in_default c =
    let of = c.self.inside in
    let s = sought_by of.phase in
    let long : c.len.result ≡ length c.args.self.now.pairs = c.len.ensures ∙ ap length c.deref-in_default.ensures
    ∙ sym (length-map of.places.value (pair_at s.residual.links s.residual.rooms)) ∙ ap (λ (x : Searched). length x.pairs) c.self.view_is in
    let elsewhere = IsElsewhere c.args.self.now.pairs c.args.node in
    subst (λ n. Covers n elsewhere (range_with_len 0 (c.len.result - 0))) long (covers-below c.len.result elsewhere)
