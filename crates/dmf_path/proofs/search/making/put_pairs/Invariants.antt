use Rattle.std.proofs.Common.{ℕ, ◌≡◌, ◌<◌, length, slice_index}
use Rattle.dmf_links.specs.Building.{ArePut}
use Rattle.dmf_links.specs.Links.{IsSpare}
use Rattle.dmf_links.specs.LinkTable.{links_of}
use Rattle.dmf_links.proofs.building.Filling.{AreClear}
use Rattle.dmf_links.proofs.tables.Twins.{opposites_of}
use Rattle.dmf_path.proofs.search.making.put_pairs.Given as goal

abbrev pub invariant-loop-k : goal.invariant-loop-k
invariant-loop-k g l = record {
  put : ArePut (g.P.Pairs.pairs l.pairs) l.places (opposites_of (links_of l.table) l.places) (λ k p. p.along) (λ k p. p.against) l.k l.rooms;
  clear : AreClear (g.P.Pairs.pairs l.pairs) l.places (opposites_of (links_of l.table) l.places) l.k l.rooms;
  spares : (p : ℕ) → p < length l.table.heads.items → IsSpare (links_of l.table) p → slice_index l.rooms p ≡ 0;
}
