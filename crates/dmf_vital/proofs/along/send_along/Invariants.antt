use Rattle.std.proofs.Common.{◌≡◌, length}
use Rattle.dmf_vital.specs.Sent.{IsTakenBack}
use Rattle.dmf_vital.specs.Shifted.{AreShifted}
use Rattle.dmf_vital.proofs.along.send_along.Given as goal

-- The amount is sent as far as this node, and what the arcs carried before is noted.
abbrev pub invariant-loop-k : goal.invariant-loop-k
invariant-loop-k l = record {
  sent : AreShifted l.state.network l.exits l.exits.node l.at l.amount l.fn.flows l.flows;
  back : IsTakenBack l.before l.k l.flows l.fn.flows;
  long : length l.before ≡ length l.fn.before;
}
