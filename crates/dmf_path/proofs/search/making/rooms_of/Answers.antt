-- The rooms are those of pairs, so they fit.
use Rattle.std.proofs.Common.{arith}
use Rattle.std.proofs.lemmas.List.{with_items_is}
use Rattle.dmf_links.specs.LinkTable.{links_of}
use Rattle.dmf_links.proofs.tables.Twins.{rooms-pairs}
use Rattle.dmf_path.proofs.search.making.rooms_of.Goals as goal

pub returns-clause-rooms : goal.returns-clause-rooms
returns-clause-rooms g c =
    rw (with_items_is c.in_ok-rooms.rooms c.put_pairs.new.rooms (omega (arith, c.put_pairs.auto.rooms, c.deref_mut.ensures.len)))
    (rooms-pairs (links_of c.args.table.now) c.args.places.now c.put_pairs.new.rooms c.args.table.now.nodes (g.P.Pairs.pairs c.args.pairs.now)
    c.args.table.now.are c.requires.places
    (omega (arith, c.put_pairs.auto.rooms, c.deref_mut.ensures.len, c.in_ok-rooms.ensures.len, c.len.ensures, c.args.table.now.heads.ok.0))
    c.put_pairs.ensures.spares c.put_pairs.ensures.pairs c.requires.pairs)
