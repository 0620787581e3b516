use Rattle.std.proofs.Common.{rules, ◌≡◌, ◌==◌, ◌&&◌, eqb}
use Rattle.std.specs.Cmp.Lexicographic.{pointwise}
use Rattle.dmf_links.specs.LinkTable.{links_of}
use Rattle.dmf_links.proofs.tables.SameLinks.{same_links-Decides}
use Rattle.dmf_links.proofs.table.LinkTable.is.Goals as goal

pub returns-then-eq-2 : goal.returns-then-eq-2
returns-then-eq-2 c =
    let l = links_of c.args.self.now in
    let m = links_of c.args.other.now in
    let first : c.if-self-other.value ≡ (l.nodes == m.nodes && pointwise eqb l.first m.first) = search rules in
    let ends : c.if-eq.value ≡ ((l.nodes == m.nodes && pointwise eqb l.first m.first) && pointwise eqb l.ends m.ends) = search rules in
    same_links-Decides l m c.eq-then-eq-2.result c.args.self.now.are c.args.other.now.are (search rules)
