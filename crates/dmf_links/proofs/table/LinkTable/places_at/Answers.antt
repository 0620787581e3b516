use Rattle.dmf_links.specs.LinkTable.{links_of}
use Rattle.dmf_links.proofs.tables.LinkPlaces.{end-within}
use Rattle.dmf_links.proofs.table.LinkTable.places_at.Goals as goal

pub returns-clause-within : goal.returns-clause-within
returns-clause-within c =
    end-within (links_of c.args.self.now) c.args.node c.index-2.result.now c.args.self.now.are c.requires c.index-2.ensures
