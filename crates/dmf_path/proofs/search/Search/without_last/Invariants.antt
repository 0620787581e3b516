use Rattle.std.proofs.Common.{◌-◌, length, take}
use Rattle.dmf_links.specs.LinkTable.{links_of}
use Rattle.dmf_path.specs.Apart.{AreShared, IsApart}
use Rattle.dmf_path.specs.Search.{with_pairs}
use Rattle.dmf_path.proofs.search.Search.without_last.Given as goal

abbrev pub invariant-loop : goal.invariant-loop
invariant-loop l = record {
  shared : AreShared l.left;
  apart : IsApart (links_of l.left.table.value) l.left.places.value l.own
      (with_pairs l.fn.self (take (length l.fn.self.pairs - l.counter) l.fn.self.pairs));
}
