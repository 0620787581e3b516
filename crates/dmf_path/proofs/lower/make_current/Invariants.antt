use Rattle.std.proofs.Common.{get_or}
use Rattle.dmf_links.specs.LinkTable.{links_of}
use Rattle.dmf_path.proofs.labels.LoweredLabels.{AreAgain}
use Rattle.dmf_path.proofs.lower.make_current.Given as goal

abbrev pub invariant-loop-place : goal.invariant-loop-place
invariant-loop-place l =
    let first = get_or l.links.table.value.first.items l.node 0 in
    AreAgain (links_of l.links.table.value) l.links.flags.items l.labels l.fn.current l.label first l.place l.current
