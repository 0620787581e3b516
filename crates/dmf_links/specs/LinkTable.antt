-- The links of a table, by node.
-- Private: only contracts and proofs of `dmf_links` and `dmf_path` use this.
use Rattle.dmf_links.specs.declared.table.LinkTable.{LinkTable}
use Rattle.dmf_links.specs.Links.{Links, ends_of}

-- the links of a table
abbrev pub links_of : LinkTable → Links
links_of t = record {
  nodes = t.nodes;
  first = t.first.items;
  ends = ends_of t.first.items t.ends;
  heads = t.heads.items;
  partners = t.partners.items;
}
