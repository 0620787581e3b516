use Rattle.std.proofs.Common.{get_or}
use Rattle.dmf_links.specs.LinkTable.{links_of}
use Rattle.dmf_path.proofs.labels.LoweredLabels.{IsTop}
use Rattle.dmf_path.proofs.lower.top_before.Given as goal

abbrev pub invariant-loop-place : goal.invariant-loop-place
invariant-loop-place l =
    IsTop (links_of l.links.table.value) l.links.flags.items l.labels (get_or l.links.table.value.first.items l.node 0) l.place l.top
