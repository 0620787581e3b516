use Rattle.std.proofs.Common.{get_or}
use Rattle.dmf_links.specs.LinkTable.{links_of}
use Rattle.dmf_path.proofs.labels.RaisedLabels.{IsLeastOf}
use Rattle.dmf_path.proofs.raise.least_label.Given as goal

abbrev pub invariant-loop-place : goal.invariant-loop-place
invariant-loop-place l =
    IsLeastOf (links_of l.links.table.value) l.labels l.links.rooms.items (get_or l.links.table.value.first.items l.node 0) l.place l.least
