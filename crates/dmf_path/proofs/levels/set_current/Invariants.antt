use Rattle.std.proofs.Common.{ℕ, ◌≡◌, ◌<◌, slice_index}
use Rattle.dmf_links.specs.LinkTable.{links_of}
use Rattle.dmf_path.specs.Walk.{AreCurrent}
use Rattle.dmf_path.proofs.levels.set_current.Given as goal

abbrev pub invariant-loop-node : goal.invariant-loop-node
invariant-loop-node l = record {
  current : AreCurrent (links_of l.table) l.current;
  first : (i : ℕ) → i < l.node-index → slice_index l.current (slice_index l.nodes i) ≡ slice_index l.table.first.items (slice_index l.nodes i);
}
