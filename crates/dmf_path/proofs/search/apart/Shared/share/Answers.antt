-- The links, the places and the numbers are the same.
use Rattle.std.proofs.Common.{◌≡◌, rules}
use Rattle.dmf_links.specs.LinkTable.{links_of}
use Rattle.dmf_path.proofs.search.apart.Shared.share.Goals as goal

pub returns-clause-shared : goal.returns-clause-shared
returns-clause-shared c shared =
    let table : c.in_ok-ok.field-0.value ≡ c.args.self.now.table.value = search rules in
    let places : c.in_ok-ok-2.field-0.value ≡ c.args.self.now.places.value = search rules in
    record { places = rw (table, places) shared.places; numbers = rw (table, places) (c.share_known.ensures (links_of c.args.self.now.table.value) c.args.self.now.places.value shared.numbers) }
