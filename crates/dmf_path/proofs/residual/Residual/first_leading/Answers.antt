use Rattle.std.proofs.Common.{arith}
use Rattle.dmf_links.specs.LinkTable.{links_of}
use Rattle.dmf_links.proofs.tables.LinkPlaces.{last-within}
use Rattle.dmf_path.proofs.residual.Residual.first_leading.Goals as goal

pub first_admissible-place-requires-clause-links : goal.first_admissible-place-requires-clause-links
first_admissible-place-requires-clause-links c =
    let are = c.args.self.now.table.value.are in
    omega (arith, c.requires.links.to_last, last-within (links_of c.args.self.now.table.value) c.args.range.node are c.requires.links.node_is.to_last)
