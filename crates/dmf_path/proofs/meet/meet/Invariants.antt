use Rattle.std.proofs.Common.{◌≡◌, ◌+◌, ◌-◌, ◌*◌, None}
use Rattle.dmf_path.specs.BothEnds.{AreNearing, HaveGoneOn}
use Rattle.dmf_path.proofs.meet.meet.Given as goal

abbrev pub invariant-loop-from_start : goal.invariant-loop-from_start
invariant-loop-from_start l = record {
  nearing : AreNearing l.links l.to_goal l.from_start;
  on : HaveGoneOn l.links l.fn.to_goal l.fn.from_start l.to_goal l.from_start None;
  kept : l.marks ≡ l.fn.marks;
}

abbrev pub decreases-loop-from_start : goal.decreases-loop-from_start
decreases-loop-from_start l = 2 * (l.links.table.value.nodes + 1) - (l.to_goal.done + l.from_start.done)
